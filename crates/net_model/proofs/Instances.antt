-- Rows of instances, found in a module and put back into one; and rows that speak only of the ports of the instances.
use Rattle.std.proofs.Common.{◌≡◌, List, [], ◌∷◌, ◌++◌, Option, Some, None, inl, inr, ⊎_elim, refl, sym, ◌∙◌, ap, subst}
use Rattle.rtl_bits.specs.declared.bit.Bit.{Bit}
use Rattle.rtl_sig.specs.declared.sig.SigBit.{SigBit}
use Rattle.cell_types.specs.declared.kind.CellKind.{CellKind}
use Rattle.rtl_ir.specs.declared.cell.Cell.{Cell}
use Rattle.rtl_ir.specs.declared.module.Design.{Design}
use Rattle.rtl_ir.specs.declared.module.Module.{Module}
use Rattle.rtl_ir.specs.declared.wire.Wire.{Wire}
use Rattle.rtl_ir.specs.Flat.Cell.{cell_kind, instance_of, listed, instances, instance_rows, Ports, cell_rows, cells_rows}
use Rattle.rtl_ir.specs.Flat.Driver.{Driven}
use Rattle.rtl_ir.specs.Flat.Place.{Frame, frame, Path}
use Rattle.rtl_ir.specs.Flat.Rows.{plain_rows, rows_of}
use Rattle.rtl_ir.specs.Flat.Tree.{named, in_module, in_instances}
use Rattle.rtl_ir.specs.Flat.Start.{start_of}
use Rattle.net_model.specs.Lists.{In}
use Rattle.net_model.specs.Refine.{AgreeOn}
use Rattle.net_model.proofs.Members.{In-left, In-right, In-cases}

-- an instance among these with its module, and what f says of it
abbrev pub Instance : Design → (Path → Module → List Driven) → Path → Driven → List Frame → Type 0
Instance d f p x frames =
    (i : Frame) × (m : Module) × In i frames × (named d.modules i.module_name ≡ Some m) × In x (f (i ∷ p) m)

pub instances_find : (d : Design) (f : Path → Module → List Driven) (p : Path) (x : Driven) (frames : List Frame) → In x (in_instances d f p frames) → Instance d f p x frames
instances_find d f p x [] i = absurd i
instances_find d f p x (g ∷ frames) i =
    ⊎_elim (λ l. here (named d.modules g.module_name) refl l) (λ r. let k = instances_find d f p x frames r in (k.0, k.1, inr k.2, k.3, k.4)) (In-cases x (in_module f (g ∷ p) (named d.modules g.module_name)) (in_instances d f p frames) i)
  where
    here : (m : Option Module) → named d.modules g.module_name ≡ m → In x (in_module f (g ∷ p) m) → Instance d f p x (g ∷ frames)
    here None e l = absurd l
    here (Some m) e l = (g, m, inl refl, e, l)

pub instances_have : (d : Design) (f : Path → Module → List Driven) (p : Path) (x : Driven) (frames : List Frame) (g : Frame) (m : Module) → In g frames → named d.modules g.module_name ≡ Some m → In x (f (g ∷ p) m) → In x (in_instances d f p frames)
instances_have d f p x [] g m i e h = absurd i
instances_have d f p x (h ∷ frames) g m (inl i) e k =
    let e' : named d.modules h.module_name ≡ Some m = ap (λ z. named d.modules z.module_name) (sym i) ∙ e in
    let k' : In x (f (h ∷ p) m) = subst (λ z. In x (f (z ∷ p) m)) i k in
    In-left x (in_module f (h ∷ p) (named d.modules h.module_name)) (in_instances d f p frames) (subst (λ z. In x (in_module f (h ∷ p) z)) (sym e') k')
instances_have d f p x (h ∷ frames) g m (inr i) e k =
    In-right x (in_module f (h ∷ p) (named d.modules h.module_name)) (in_instances d f p frames) (instances_have d f p x frames g m i e k)

-- the rows of a module speak only of the ports of the modules that it instantiates
cell_agree : (start : SigBit → Bit) (ports ports' : Ports) (p : Path) (wires : List Wire) (c : Cell) (kind : Option CellKind) → AgreeOn ports ports' (listed (instance_of c kind)) → cell_rows start ports p wires c kind ≡ cell_rows start ports' p wires c kind
cell_agree start ports ports' p wires c (Some kind) h = refl
cell_agree start ports ports' p wires c None h = ap (instance_rows p wires c.pins (frame c.name c.kind_name)) h.0

agree_left : (ports ports' : Ports) (fs gs : List Frame) → AgreeOn ports ports' (fs ++ gs) → AgreeOn ports ports' fs
agree_left ports ports' [] gs h = tt
agree_left ports ports' (f ∷ fs) gs h = (h.0, agree_left ports ports' fs gs h.1)

agree_right : (ports ports' : Ports) (fs gs : List Frame) → AgreeOn ports ports' (fs ++ gs) → AgreeOn ports ports' gs
agree_right ports ports' [] gs h = h
agree_right ports ports' (f ∷ fs) gs h = agree_right ports ports' fs gs h.1

cells_agree : (start : SigBit → Bit) (ports ports' : Ports) (p : Path) (wires : List Wire) (cs : List Cell) → AgreeOn ports ports' (instances cs) → cells_rows start ports p wires cs ≡ cells_rows start ports' p wires cs
cells_agree start ports ports' p wires [] h = refl
cells_agree start ports ports' p wires (c ∷ cs) h =
    ap (λ z. z ++ cells_rows start ports p wires cs) (cell_agree start ports ports' p wires c (cell_kind c) (agree_left ports ports' (listed (instance_of c (cell_kind c))) (instances cs) h)) ∙ ap (λ z. cell_rows start ports' p wires c (cell_kind c) ++ z) (cells_agree start ports ports' p wires cs (agree_right ports ports' (listed (instance_of c (cell_kind c))) (instances cs) h))

pub rows_agree : (ports ports' : Ports) (p : Path) (m : Module) → AgreeOn ports ports' (instances m.cells) → rows_of ports p m ≡ rows_of ports' p m
rows_agree ports ports' p m h =
    ap (λ z. z ++ plain_rows p m) (cells_agree (start_of m.wires m.processes) ports ports' p m.wires m.cells h)

pub agree_at : (ports ports' : Ports) (frames : List Frame) → AgreeOn ports ports' frames → (f : Frame) → In f frames → ports f.module_name ≡ ports' f.module_name
agree_at ports ports' [] a f i = absurd i
agree_at ports ports' (g ∷ frames) a f (inl e) = subst (λ z. ports z.module_name ≡ ports' z.module_name) (sym e) a.0
agree_at ports ports' (g ∷ frames) a f (inr i) = agree_at ports ports' frames a.1 f i
