-- A design whose modules `proc` was applied to, where it passes no limit.
use Rattle.std.proofs.Common.{◌≡◌, ℕ, zero, suc, Bool, true, false, cond, List, [], ◌∷◌, length, Option, Some, None, inl, inr, ⊎_elim, refl, sym, ◌∙◌, ap, subst}
use Rattle.std.specs.Prelude.{map, option_and_then, option_map, unwrap_or}
use Rattle.std.specs.Str.{bytes_eq}
use Rattle.cell_types.specs.Kind.{kind_of}
use Rattle.cell_types.specs.declared.kind.CellKind.{CellKind}
use Rattle.rtl_ir.specs.declared.cell.Cell.{Cell}
use Rattle.rtl_ir.specs.declared.module.Design.{Design}
use Rattle.rtl_ir.specs.declared.module.Module.{Module}
use Rattle.rtl_ir.specs.declared.ports.PortLine.{PortLine}
use Rattle.rtl_ir.specs.Faults.{check_faults}
use Rattle.rtl_ir.specs.Flat.Cell.{Ports, cell_kind, instances}
use Rattle.rtl_ir.specs.Flat.Place.{Frame, frame}
use Rattle.rtl_ir.specs.Flat.Tree as tree
use Rattle.rtl_ir.specs.Flat.Tree.{named, ports_or_none}
use Rattle.rtl_ir.specs.Ports.{instances_of, ports_of}
use Rattle.rtl_ir.specs.Types as types
use Rattle.rtl_ir.specs.Types.{Library, cell_type, port_lines, port_named, table_ports}
use Rattle.rtl_ir.specs.Scope.{everything}
use Rattle.rtl_readable.specs.Readable.{IsReadable}
use Rattle.net_model.specs.Below.{AreReached, LeadsWithin}
use Rattle.net_model.specs.Lists.{Distinct, In}
use Rattle.net_model.specs.Refine.{AgreeOn, AreWellDriven, EachRefines, IsWellDriven, Refines, RefinesOver, with_body}
use Rattle.net_model.proofs.Composing.{RefinesOver_refl, each_refines}
use Rattle.net_model.proofs.Members.{In-map, In-mapped}
use Rattle.check_laws.proofs.Accepted.{accepted}
use Rattle.check_laws.proofs.Readable.{sound}
use Rattle.pass_laws.proofs.Agreeing.{driven_agree}
use Rattle.pass_laws.proofs.Faultless.{type_is}
use Rattle.flat_pass.specs.Flat.{flat_of}
use Rattle.flat_pass.specs.Flattened.{IsFlattened, IsUnfolded, StandsOn, ports_among}
use Rattle.flat_pass.proofs.Partners.{instance_cell, instance_in}
use Rattle.flat_pass.proofs.Promises.{flattened}
use Rattle.script_core.specs.declared.word.Word.TheVariants.{Proc}
use Rattle.script_core.specs.Fold.{MayGoOn, each_proc, pass_of}
use Rattle.script_core.specs.Reached.{reached_of, table_of}
use Rattle.script_core.proofs.Faultless.{Alike, AreAlike, SameType, absent_alike, named_is, present_alike, ready_over, same_lines}
use Rattle.script_core.proofs.Given.{given_first}
use Rattle.script_core.proofs.Instancing.{found_in}
use Rattle.script_core.proofs.Leading.{Leads}
use Rattle.script_core.proofs.Stepping.{GoesOn, word_goes}
use Rattle.script_core.proofs.Tables.{agree, instantiated, table_instance}
use Rattle.script_core.proofs.Under.{apart, from_frame, kind_is, names, no_kind, own_closed, own_names, same_named, same_table, to_frame, under_closed, under_from, under_to}

-- ports agree on frames
pub agree_frames : (p q : Ports) (frames : List Frame) → ((f : Frame) → In f frames → p f.module_name ≡ q f.module_name) → AgreeOn p q frames
agree_frames p q [] h = tt
agree_frames p q (f ∷ fs) h = (h f (inl refl), agree_frames p q fs (λ g i. h g (inr i)))

agree_both : (p q r : Ports) (frames : List Frame) → AgreeOn p q frames → AgreeOn q r frames → AgreeOn p r frames
agree_both p q r [] h k = tt
agree_both p q r (f ∷ fs) h k = (h.0 ∙ k.0, agree_both p q r fs h.1 k.1)

pub refines_over : (b c : Module) (ports over : Ports) → AgreeOn ports over (instances b.cells) → RefinesOver b c ports → RefinesOver b c over
refines_over b c ports over agrees h = record {
  holds = λ pre post fb fc ab. h.holds pre post fb fc (agree_both ports over (tree.design_ports (with_body pre b post)) (instances b.cells) agrees ab);
}

-- what is made of a module is made of the same module
made_same : (made : Module → Option Module) (n x after : Module) → n ≡ x → made x ≡ Some after → made n ≡ Some (unwrap_or (made n) n)
made_same made n x after same e =
    subst (λ z. made z ≡ Some (unwrap_or (made z) z)) (sym same) (e ∙ ap (λ o. Some (unwrap_or o x)) (sym e))

module _ (d : Design) (readable : IsReadable d) (none : check_faults d.modules ≡ []) where
  -- `proc` of a module, or the module where that passes a limit
  abbrev pub made : Module → Option Module
  made b = pass_of (table_of d.modules b) Proc b

  abbrev pub procd : Module → Module
  procd b = unwrap_or (made b) b

  -- what is so of it
  pub record IsFine (b n : Module) : Type 0 where
    pub id : b.id ≡ n.id
    pub ports : ports_of b.wires ≡ ports_of n.wires
    pub instances : instances b.cells ≡ instances n.cells
    pub before : IsWellDriven (tree.design_ports d) b
    pub driven : IsWellDriven (tree.design_ports d) n
    pub refines : RefinesOver b n (tree.design_ports d)

  well : AreWellDriven d
  well = accepted everything d (sound d readable) none

  pub goes_on : (b : Module) → In b d.modules → (n : Module) → made b ≡ Some n → GoesOn (table_of d.modules b) b n
  goes_on b i n e = word_goes (table_of d.modules b) Proc b n (inl (given_first d readable none b i b.id)) e

  pub procd_fine : (b : Module) → In b d.modules → IsFine b (procd b)
  procd_fine b i = by (made b) refl
    where
      own : IsWellDriven (tree.design_ports d) b
      own = well.modules b i

      by : (o : Option Module) → made b ≡ o → IsFine b (unwrap_or o b)
      by None e = record { id = refl; ports = refl; instances = refl; before = own; driven = own; refines = RefinesOver_refl b (tree.design_ports d) }
      by (Some n) e =
          let pass = (goes_on b i n e).pass in
          let same = agree d.modules b in
          record {
            id = pass.id;
            ports = pass.ports;
            instances = pass.instances;
            before = own;
            driven = pass.driven (tree.design_ports d) same own;
            refines = refines_over b n (tree.table_ports (table_of d.modules b)) (tree.design_ports d) same pass.refines;
          }

  abbrev pub procd_design : Design
  procd_design = record { modules = map procd d.modules }

  each_fine : (bs : List Module) → ((b : Module) → In b bs → In b d.modules) → EachRefines (tree.design_ports d) bs (map procd bs)
  each_fine [] h = tt
  each_fine (b ∷ bs) h =
      let fine = procd_fine b (h b (inl refl)) in
      ((fine.id, fine.ports, fine.before, fine.driven, fine.refines), each_fine bs (λ x i. h x (inr i)))

  pub procd_refines : Refines d procd_design
  procd_refines = each_refines d.modules (map procd d.modules) own (each_fine d.modules (λ b i. i))
    where
      own : Distinct (names d.modules)
      own = own_names d readable none

  -- names find the modules that were made
  named_made : (bs : List Module) → ((b : Module) → In b bs → In b d.modules) → (id : List ℕ) → named (map procd bs) id ≡ option_map procd (named bs id)
  named_made [] h id = refl
  named_made (b ∷ bs) h id =
      ap (λ z. cond (bytes_eq z id) (Some (procd b)) (named (map procd bs) id)) (sym (procd_fine b (h b (inl refl))).id)
      ∙ ap (cond (bytes_eq b.id id) (Some (procd b))) (named_made bs (λ x j. h x (inr j)) id)
      ∙ by (bytes_eq b.id id)
    where
      by : (t : Bool) → cond t (Some (procd b)) (option_map procd (named bs id)) ≡ option_map procd (cond t (Some b) (named bs id))
      by true = refl
      by false = refl

  -- its ports are those of the design
  made_ports : (o : Option Module) → ((l : Module) → o ≡ Some l → In l d.modules) → ports_or_none (option_map procd o) ≡ ports_or_none o
  made_ports None h = refl
  made_ports (Some l) h = sym (procd_fine l (h l refl)).ports

  named_in : (id : List ℕ) (l : Module) → named d.modules id ≡ Some l → In l d.modules
  named_in id l e = found_in d.modules id l (named_is d.modules id ∙ e)

  pub same_ports : tree.design_ports procd_design ≡ tree.design_ports d
  same_ports = λ i id. at id i
    where
      at : (id : List ℕ) → ports_or_none (named (map procd d.modules) id) ≡ ports_or_none (named d.modules id)
      at id = ap ports_or_none (named_made d.modules (λ b i. i) id) ∙ made_ports (named d.modules id) (λ l e. named_in id l e)

  same_names : (bs : List Module) → ((b : Module) → In b bs → In b d.modules) → names bs ≡ names (map procd bs)
  same_names [] h = refl
  same_names (b ∷ bs) h = (λ i. (procd_fine b (h b (inl refl))).id i ∷ same_names bs (λ x j. h x (inr j)) i)

  pub procd_well : AreWellDriven procd_design
  procd_well = record {
    ids = subst Distinct (same_names d.modules (λ b i. i)) (own_names d readable none);
    modules = λ x i. let k = In-mapped procd x d.modules i in
        subst (λ z. IsWellDriven z x) (sym same_ports) (subst (IsWellDriven (tree.design_ports d)) (sym k.2) (procd_fine k.0 k.1).driven);
  }

  -- a module leads there where it did
  leads_made : (k : ℕ) (b n : Module) → In b d.modules → Leads d.modules k b.cells n → LeadsWithin k procd_design (procd b) (procd n)
  leads_made zero b n i h = absurd h
  leads_made (suc k) b n i h =
      let l : Module = h.0 in
      let f = to_frame d.modules b.cells l h.1 in
      let there : In f.0 (instances (procd b).cells) = subst (In f.0) (procd_fine b i).instances f.1 in
      let is : named procd_design.modules f.0.module_name ≡ Some (procd l) = named_made d.modules (λ x j. j) f.0.module_name ∙ ap (option_map procd) f.2 in
      (f.0, procd l, there, is, ⊎_elim (λ e. inl (ap procd e)) (λ r. inr (leads_made k l n (named_in f.0.module_name l f.2) r)) h.2)

  made_leads : (k : ℕ) (b x : Module) → In b d.modules → LeadsWithin k procd_design (procd b) x → (n : Module) × Leads d.modules k b.cells n × (x ≡ procd n)
  made_leads zero b x i h = absurd h
  made_leads (suc k) b x i h = by (λ l j r. made_leads k l x j r) (named d.modules h.0.module_name) refl
    where
      by : ((l : Module) → In l d.modules → LeadsWithin k procd_design (procd l) x → (n : Module) × Leads d.modules k l.cells n × (x ≡ procd n))
          → (o : Option Module) → named d.modules h.0.module_name ≡ o → (n : Module) × Leads d.modules (suc k) b.cells n × (x ≡ procd n)
      by later None e =
          let no : None ≡ Some h.1 = sym (named_made d.modules (λ y j. j) h.0.module_name ∙ ap (option_map procd) e) ∙ h.3 in
          absurd cc
      by later (Some l) e =
          let both : Some (procd l) ≡ Some h.1 = sym (named_made d.modules (λ y j. j) h.0.module_name ∙ ap (option_map procd) e) ∙ h.3 in
          let same : procd l ≡ h.1 = cc in
          let there = from_frame d.modules b.cells l (h.0, subst (In h.0) (sym (procd_fine b i).instances) h.2, e) in
          ⊎_elim
          (λ f. (l, (l, there, inl refl), sym f ∙ sym same))
          (λ r. let g = later l (named_in h.0.module_name l e) (subst (λ z. LeadsWithin k procd_design z x) (sym same) r) in
          (g.0, (l, there, inr g.1), g.2))
          h.4

  -- a module and those that it reaches
  module _ (m : Module) (i : In m d.modules) where
    abbrev pub below : List Module
    below = reached_of d.modules m.cells

    pub procd_reached : AreReached procd_design (procd m) (map procd below)
    procd_reached = record {
      all = λ x r. let k = made_leads r.0 m x i r.1 in
          subst (λ z. In z (map procd below)) (sym k.2) (In-map procd k.0 below (under_to d readable none m.cells k.0 r.0 k.1));
      just = λ x j. let k = In-mapped procd x below j in
          (length d.modules, subst (LeadsWithin (length d.modules) procd_design (procd m)) (sym k.2) (leads_made (length d.modules) m k.0 i (under_from d readable none m.cells k.0 k.1).1));
    }

    -- what was made of those that it reaches
    pub record AreMade (xs ys : List Module) : Type 0 where
      pub all : ys ≡ map procd xs
      pub each : (n : Module) → In n xs → made n ≡ Some (procd n)

    pub each_made : (xs ys : List Module) → ((n : Module) → In n xs → In n below) → each_proc below xs ≡ Some ys → AreMade xs ys
    each_made [] ys h e = let none_left : [] ≡ ys = cc in record { all = sym none_left; each = λ n j. absurd j }
    each_made (x ∷ xs) ys h e = by (λ rest q. each_made xs rest (λ n j. h n (inr j)) q) (made x) (each_proc below xs) refl refl (ap step table ∙ e)
      where
        step : Option Module → Option (List Module)
        step o = option_and_then (λ after. option_map (λ rest. after ∷ rest) (each_proc below xs)) o

        table : made x ≡ pass_of (table_of below x) Proc x
        table = ap (λ t. pass_of t Proc x) (sym (same_table d readable none m.cells x (under_closed d readable none m.cells x (h x (inl refl)))))

        by : ((rest : List Module) → each_proc below xs ≡ Some rest → AreMade xs rest) → (o : Option Module) (r : Option (List Module)) → made x ≡ o → each_proc below xs ≡ r → option_and_then (λ after. option_map (λ rest. after ∷ rest) r) o ≡ Some ys → AreMade (x ∷ xs) ys
        by later None r p q f = absurd cc
        by later (Some after) None p q f = absurd cc
        by later (Some after) (Some rest) p q f =
            let made_rest = later rest q in
            let own : procd x ≡ after = ap (λ o. unwrap_or o x) p in
            let whole : after ∷ rest ≡ ys = cc in
            record {
              all = sym whole ∙ (λ j. sym own j ∷ made_rest.all j);
              each = λ n j. ⊎_elim (λ g. made_same made n x after g p) (λ l. made_rest.each n l) j;
            }

    module _ (each : (n : Module) → In n below → made n ≡ Some (procd n)) where
      abbrev pub all : List Module
      all = map procd below

      in_design : (n : Module) → In n below → In n d.modules
      in_design n j = (under_from d readable none m.cells n j).0

      -- cells that lead to no others
      abbrev IsClosed : Module → Type 0
      IsClosed n = (l : Module) → In l (instances_of d.modules n.cells) → In l below

      -- their types name what was made of the modules that they name
      type_made : (n : Module) → IsClosed n → (c : Cell) → In c n.cells → cell_kind c ≡ None → named all c.kind_name ≡ option_map procd (named d.modules c.kind_name)
      type_made n closed c j e =
          named_made below in_design c.kind_name
          ∙ ap (option_map procd)
          (sym (named_is below c.kind_name) ∙ same_named d readable none m.cells n.cells closed c j (no_kind c.kind_name (sym (kind_is c) ∙ e)) ∙ named_is d.modules c.kind_name)

      -- a module over its table, and what was made of it over what was made of those below
      record IsHere (n after : Module) : Type 0 where
        pub member : In n d.modules
        pub closed : IsClosed n
        pub is : made n ≡ Some after

      alike : (n after : Module) → IsHere n after → AreAlike (table_ports (table_of d.modules n).modules) (types.design_ports all) after.cells
      alike n after h c j = by (cell_kind c) refl
        where
          P : types.Ports
          P = table_ports (table_of d.modules n).modules

          Q : types.Ports
          Q = types.design_ports all

          own : instances n.cells ≡ instances after.cells
          own = (goes_on n h.member after h.is).pass.instances

          lines : (id : List ℕ) → types.design_ports all id ≡ option_map (λ (l : Module). port_lines l.wires) (named all id)
          lines id = ap (option_map (λ (l : Module). port_lines l.wires)) (named_is all id)

          at : (e : Cell) → In e n.cells → cell_kind e ≡ None → kind_of e.kind_name ≡ None → Alike (cell_type P e.kind_name) (cell_type Q e.kind_name)
          at e k none_is kind = both (named d.modules e.kind_name) refl
            where
              first : P e.kind_name ≡ option_map (λ (l : Module). ports_of l.wires) (named d.modules e.kind_name)
              first = table_instance d.modules n e.kind_name (instantiated e n.cells k kind)

              second : Q e.kind_name ≡ option_map (λ (l : Module). port_lines l.wires) (option_map procd (named d.modules e.kind_name))
              second = lines e.kind_name ∙ ap (option_map (λ (l : Module). port_lines l.wires)) (type_made n h.closed e k none_is)

              both : (o : Option Module) → named d.modules e.kind_name ≡ o → Alike (cell_type P e.kind_name) (cell_type Q e.kind_name)
              both None q = absent_alike P Q e.kind_name (first ∙ ap (option_map (λ (l : Module). ports_of l.wires)) q) (second ∙ ap (λ o. option_map (λ (l : Module). port_lines l.wires) (option_map procd o)) q)
              both (Some l) q =
                  let there : In l below = h.closed l (from_frame d.modules n.cells l (frame e.name e.kind_name, instance_in n.cells e k none_is, q)) in
                  let goes = goes_on l (in_design l there) (procd l) (each l there) in
                  present_alike P Q e.kind_name kind (ports_of l.wires) (port_lines (procd l).wires)
                  (first ∙ ap (option_map (λ (x : Module). ports_of x.wires)) q)
                  (second ∙ ap (λ o. option_map (λ (x : Module). port_lines x.wires) (option_map procd o)) q)
                  (λ name. ap (λ (ls : List PortLine). port_named ls name) goes.pass.ports ∙ sym (same_lines (procd l).wires goes.next.ready.named name))

          by : (k : Option CellKind) → cell_kind c ≡ k → Alike (cell_type P c.kind_name) (cell_type Q c.kind_name)
          by (Some kind) e =
              subst (λ t. Alike t (cell_type Q c.kind_name)) (sym (type_is P c kind e)) (subst (λ t. Alike (Library kind) t) (sym (type_is Q c kind e)) (SameType (Library kind)))
          by None e =
              let x = instance_cell n.cells (frame c.name c.kind_name) (subst (In (frame c.name c.kind_name)) (sym own) (instance_in after.cells c j e)) in
              let name : x.0.kind_name ≡ c.kind_name = sym (ap (λ (f : Frame). f.module_name) x.3) in
              subst (λ z. Alike (cell_type P z) (cell_type Q z)) name (at x.0 x.1 x.2 (sym (kind_is x.0) ∙ x.2))

      unfolded : (n after : Module) → IsHere n after → IsUnfolded all after
      unfolded n after h =
          let goes = goes_on n h.member after h.is in
          record {
            ready = ready_over (table_ports (table_of d.modules n).modules) (types.design_ports all) after after.id (alike n after h) goes.next.ready;
            memories = goes.next.named;
            instances = subst (λ (fs : List Frame). Distinct (map (λ (f : Frame). f.name) fs)) goes.pass.instances (procd_fine n h.member).before.instances;
          }

      below_here : (n : Module) → In n below → IsHere n (procd n)
      below_here n j = record { member = in_design n j; closed = λ l k. under_closed d readable none m.cells n j l k; is = each n j }

      own_here : (body : Module) → made m ≡ Some body → IsHere m body
      own_here body e = record { member = i; closed = λ l k. own_closed d readable none m.cells l k; is = e }

      -- the module stands on them
      pub stands : (body : Module) → made m ≡ Some body → StandsOn body all
      stands body e = record {
        own = unfolded m body (own_here body e);
        inner = λ x j. let k = In-mapped procd x below j in subst (IsUnfolded all) (sym k.2) (unfolded k.0 (procd k.0) (below_here k.0 k.1));
        apart = λ x j same. let k = In-mapped procd x below j in
            let id : k.0.id ≡ (procd k.0).id = (procd_fine k.0 (in_design k.0 k.1)).id in
            let own : m.id ≡ body.id = (goes_on m i body e).pass.id in
            apart d readable none m i k.0 k.1 (id ∙ ap (λ (z : Module). z.id) (sym k.2) ∙ same ∙ sym own);
      }

      agrees : (n after : Module) → IsHere n after → AgreeOn (ports_among all) (tree.design_ports d) (instances after.cells)
      agrees n after h =
          subst (AgreeOn (ports_among all) (tree.design_ports d)) (goes_on n h.member after h.is).pass.instances
          (agree_frames (ports_among all) (tree.design_ports d) (instances n.cells)
          (λ f j. let x = instance_cell n.cells f j in
          let name : f.module_name ≡ x.0.kind_name = ap (λ (z : Frame). z.module_name) x.3 in
          ap ports_or_none (ap (named all) name ∙ type_made n h.closed x.0 x.1 x.2)
          ∙ made_ports (named d.modules x.0.kind_name) (λ l q. named_in x.0.kind_name l q)
          ∙ ap (λ z. ports_or_none (named d.modules z)) (sym name)))

      -- `flatten` of it
      module _ (body after : Module) (is : made m ≡ Some body) (gives : flat_of all body ≡ Some after) where
        pub is_flat : IsFlattened all body after
        is_flat = flattened all body after (stands body is) gives

        body_driven : IsWellDriven (tree.design_ports d) body
        body_driven = subst (IsWellDriven (tree.design_ports d)) (ap (λ o. unwrap_or o m) is) (procd_fine m i).driven

        pub flat_driven : IsWellDriven (tree.design_ports d) after
        flat_driven =
            is_flat.driven (tree.design_ports d) (agrees m body (own_here body is))
            (λ x j. let k = In-mapped procd x below j in subst (λ (z : Module). AgreeOn (ports_among all) (tree.design_ports d) (instances z.cells)) (sym k.2) (agrees k.0 (procd k.0) (below_here k.0 k.1)))
            body_driven
            (λ x j. let k = In-mapped procd x below j in subst (IsWellDriven (tree.design_ports d)) (sym k.2) (procd_fine k.0 (in_design k.0 k.1)).driven)

        pub flat_on : MayGoOn (table_of d.modules m) after
        flat_on = record {
          ready = is_flat.ready (table_ports (table_of d.modules m).modules);
          driven = driven_agree (tree.design_ports d) (tree.table_ports (table_of d.modules m)) after
              (subst (AgreeOn (tree.design_ports d) (tree.table_ports (table_of d.modules m))) (sym is_flat.library) tt) flat_driven;
          named = is_flat.memories;
        }
