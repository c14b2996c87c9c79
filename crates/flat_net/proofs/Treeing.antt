-- The rows of a module with its instances, one module after another.
use Rattle.std.proofs.Common.{◌≡◌, ℕ, zero, suc, ◌-◌, ◌<◌, ◌≤◌, Bool, true, false, List, [], ◌∷◌, ◌++◌, length, get_or, drop, Option, Some, None, slice_get, is_some, refl, sym, ◌∙◌, ap, subst, arith, append_assoc, true≢false}
use Rattle.std.proofs.lemmas.List.{append-nil}
use Rattle.std.proofs.lemmas.Option.{slice_get_within, slice_get-get_or, get_or_from_slice_get}
use Rattle.cell_types.specs.declared.kind.CellKind.{CellKind}
use Rattle.cell_types.specs.Kind.{kind_of}
use Rattle.rtl_ir.specs.declared.cell.Cell.{Cell}
use Rattle.rtl_ir.specs.declared.module.Design.{Design}
use Rattle.rtl_ir.specs.declared.module.Module.{Module}
use Rattle.rtl_ir.specs.Flat.Cell.{Ports, cell_kind, instance_of, instances, listed}
use Rattle.rtl_ir.specs.Flat.Driver.{Driven}
use Rattle.rtl_ir.specs.Flat.Place.{Frame, Path, frame}
use Rattle.rtl_ir.specs.Flat.Tree.{design_ports, in_instances, in_module, in_tree, named}
use Rattle.rtl_ir.proofs.PortLemmas.{drop-before}
use Rattle.flat_net.specs.declared.builder.Builder.{Builder}
use Rattle.flat_net.specs.declared.modules.Entry.{Entry}
use Rattle.flat_net.specs.declared.tree.Visit.{Visit}
use Rattle.flat_net.specs.Adds.{Adds}
use Rattle.flat_net.specs.Keys.{path_at}
use Rattle.flat_net.specs.Known.{Keeps, Extends, Known}
use Rattle.flat_net.specs.Tables.{Stands}
use Rattle.rtl_ir.specs.Flat.Rows.{rows_of}
use Rattle.flat_net.specs.Visits.{ArePathed, Opens, pending, visit_rows}
use Rattle.flat_net.proofs.Adding.{Adds-then, Adds-numbers, Leads, Leads-none, Leads-next, Leads-end}
use Rattle.flat_net.proofs.Kept.{get_or-Keeps, within-Keeps}

-- instances, one after another

in_instances-append : (d : Design) (inner : Path → Module → List Driven) (p : Path) (fs gs : List Frame) → in_instances d inner p (fs ++ gs) ≡ in_instances d inner p fs ++ in_instances d inner p gs
in_instances-append d inner p [] gs = refl
in_instances-append d inner p (f ∷ fs) gs =
    ap (λ rows. in_module inner (f ∷ p) (named d.modules f.module_name) ++ rows) (in_instances-append d inner p fs gs)
    ∙ sym (append_assoc (in_module inner (f ∷ p) (named d.modules f.module_name)) (in_instances d inner p fs) (in_instances d inner p gs))

-- no level is left
no_levels : (d : Design) (p : Path) (fs : List Frame) → in_instances d (in_tree d (rows_of (design_ports d)) 0) p fs ≡ []
no_levels d p [] = refl
no_levels d p (f ∷ fs) = by (named d.modules f.module_name) (no_levels d p fs)
  where
    by : (m : Option Module) → in_instances d (in_tree d (rows_of (design_ports d)) 0) p fs ≡ [] → in_module (in_tree d (rows_of (design_ports d)) 0) (f ∷ p) m ++ in_instances d (in_tree d (rows_of (design_ports d)) 0) p fs ≡ []
    by None h = h
    by (Some m) h = h

pending-append : (d : Design) (paths : List Path) (vs ws : List Visit) → pending d paths (vs ++ ws) ≡ pending d paths ws ++ pending d paths vs
pending-append d paths [] ws = sym (append-nil (pending d paths ws))
pending-append d paths (v ∷ vs) ws = ap (λ rows. rows ++ visit_rows d paths v) (pending-append d paths vs ws) ∙ append_assoc (pending d paths ws) (pending d paths vs) (visit_rows d paths v)

-- with more paths
pub pending-kept : (d : Design) (ps qs : List Path) (vs : List Visit) → Keeps ps qs → ArePathed ps vs → pending d qs vs ≡ pending d ps vs
pending-kept d ps qs [] k h = refl
pending-kept d ps qs (v ∷ vs) k h =
    let path : path_at qs v.path ≡ path_at ps v.path = get_or-Keeps ps qs [] v.path k h.0 in
    let rest = pending-kept d ps qs vs k h.1 in
    (λ i. rest i ++ in_tree d (rows_of (design_ports d)) (suc v.below) (path i) v.body.now)

pub pathed-kept : (ps qs : List Path) (vs : List Visit) → Keeps ps qs → ArePathed ps vs → ArePathed qs vs
pathed-kept ps qs [] k h = tt
pathed-kept ps qs (v ∷ vs) k h = (within-Keeps ps qs v.path k h.0, pathed-kept ps qs vs k h.1)

pathed-append : (ps : List Path) (vs ws : List Visit) → ArePathed ps vs → ArePathed ps ws → ArePathed ps (vs ++ ws)
pathed-append ps [] ws h k = k
pathed-append ps (v ∷ vs) ws h k = (h.0, pathed-append ps vs ws h.1 k)

pathed-before : (ps : List Path) (vs ws : List Visit) → ArePathed ps (vs ++ ws) → ArePathed ps vs
pathed-before ps [] ws h = tt
pathed-before ps (v ∷ vs) ws h = (h.0, pathed-before ps vs ws h.1)

pathed-behind : (ps : List Path) (vs ws : List Visit) → ArePathed ps (vs ++ ws) → ArePathed ps ws
pathed-behind ps [] ws h = h
pathed-behind ps (v ∷ vs) ws h = pathed-behind ps vs ws h.1

-- a module gives the rows of another that has its rows and its cells
pub tree_like : (d : Design) (n : ℕ) (p : Path) (a b : Module) → ((ports : Ports) (q : Path) → rows_of ports q a ≡ rows_of ports q b) → a.cells ≡ b.cells → in_tree d (rows_of (design_ports d)) n p a ≡ in_tree d (rows_of (design_ports d)) n p b
tree_like d zero p a b rows cells = refl
tree_like d (suc n) p a b rows cells = λ i. rows (design_ports d) p i ++ in_instances d (in_tree d (rows_of (design_ports d)) n) p (instances (cells i))

-- what a cell opens

pub Opens-none : (d : Design) (paths : List Path) (old : List Visit) (below : ℕ) (p : Path) (cells : List Cell) → [] ≡ in_instances d (in_tree d (rows_of (design_ports d)) below) p (instances cells) → Opens d paths old old below p cells
Opens-none d paths old below p cells h = record { added = []; put = sym (append-nil old); rows = h; pathed = tt }

pub Opens-no_level : (d : Design) (paths : List Path) (old : List Visit) (below : ℕ) (p : Path) (cells : List Cell) → below ≡ 0 → Opens d paths old old below p cells
Opens-no_level d paths old below p cells e = Opens-none d paths old below p cells (sym (ap (λ n. in_instances d (in_tree d (rows_of (design_ports d)) n) p (instances cells)) e ∙ no_levels d p (instances cells)))

none_if : (o : Option CellKind) → is_some o ≡ false → o ≡ None
none_if None h = refl
none_if (Some k) h = absurd (true≢false h)

library_frames : (c : Cell) → is_some (kind_of c.kind_name) ≡ true → instances (c ∷ []) ≡ []
unfolding cell_kind
library_frames c h = by (kind_of c.kind_name) h
  where
    by : (o : Option CellKind) → is_some o ≡ true → listed (instance_of c o) ++ [] ≡ []
    by None h = absurd (true≢false (sym h))
    by (Some k) h = refl

instance_frames : (c : Cell) → kind_of c.kind_name ≡ None → instances (c ∷ []) ≡ frame c.name c.kind_name ∷ []
unfolding cell_kind
instance_frames c e = ap (λ o. listed (instance_of c o) ++ []) e

pub Opens-library : (d : Design) (paths : List Path) (old : List Visit) (below : ℕ) (p : Path) (c : Cell) (id : List ℕ) (kind : Option CellKind) (some : Bool)
    → id ≡ c.kind_name → kind ≡ kind_of id → some ≡ is_some kind → some ≡ true → Opens d paths old old below p (c ∷ [])
Opens-library d paths old below p c id kind some e f g h =
    Opens-none d paths old below p (c ∷ []) (ap (in_instances d (in_tree d (rows_of (design_ports d)) below) p) (sym (library_frames c (sym (ap (λ i. is_some (kind_of i)) e) ∙ sym (ap is_some f) ∙ sym g ∙ h))))

-- the cell is an instance
module _ (d : Design) (paths : List Path) (old : List Visit) (below : ℕ) (p : Path) (c : Cell) (id : List ℕ) (kind : Option CellKind) (some : Bool) (e : id ≡ c.kind_name) (f : kind ≡ kind_of id) (g : some ≡ is_some kind) (h : some ≡ false) where
  frames : instances (c ∷ []) ≡ frame c.name c.kind_name ∷ []
  frames = instance_frames c (sym (ap kind_of e) ∙ sym f ∙ none_if kind (sym g ∙ h))

  one : in_instances d (in_tree d (rows_of (design_ports d)) below) p (instances (c ∷ [])) ≡ in_module (in_tree d (rows_of (design_ports d)) below) (frame c.name c.kind_name ∷ p) (named d.modules c.kind_name)
  one = ap (in_instances d (in_tree d (rows_of (design_ports d)) below) p) frames ∙ append-nil _

  pub Opens-missing : Stands None (named d.modules id) → Opens d paths old old below p (c ∷ [])
  Opens-missing s = Opens-none d paths old below p (c ∷ []) (sym (one ∙ by (named d.modules c.kind_name) (subst (λ i. Stands None (named d.modules i)) e s)))
    where
      by : (m : Option Module) → Stands None m → in_module (in_tree d (rows_of (design_ports d)) below) (frame c.name c.kind_name ∷ p) m ≡ []
      by None s = refl
      by (Some m) s = absurd s

  pub Opens-found : (new : List Visit) (v : Visit) (entry : Entry) (name : List ℕ) → Stands (Some entry) (named d.modules id) → v.body.now ≡ entry.body.now → suc v.below ≡ below → name ≡ c.name
      → slice_get paths v.path ≡ Some (frame name id ∷ p) → new ≡ old ++ v ∷ [] → Opens d paths old new below p (c ∷ [])
  Opens-found new v entry name s body levels called there put = record {
    added = v ∷ [];
    put = put;
    rows = (λ i. in_tree d (rows_of (design_ports d)) (levels i) (path i) (body i)) ∙ sym (one ∙ by (named d.modules c.kind_name) (subst (λ i. Stands (Some entry) (named d.modules i)) e s));
    pathed = (slice_get_within paths v.path _ there, tt);
  }
    where
      path : path_at paths v.path ≡ frame c.name c.kind_name ∷ p
      path = get_or_from_slice_get paths v.path _ [] there ∙ (λ i. frame (called i) (e i) ∷ p)

      by : (m : Option Module) → Stands (Some entry) m → in_module (in_tree d (rows_of (design_ports d)) below) (frame c.name c.kind_name ∷ p) m ≡ in_tree d (rows_of (design_ports d)) below (frame c.name c.kind_name ∷ p) entry.body.now
      by None s = absurd s
      by (Some m) s = sym (tree_like d below (frame c.name c.kind_name ∷ p) entry.body.now m s.rows s.cells)

-- the cells, from the last one on

pub Opens-next : (d : Design) (ps qs : List Path) (old mid new : List Visit) (below : ℕ) (p : Path) (cells : List Cell) (at : ℕ) (c : Cell) → 0 < at → at ≤ length cells → c ≡ get_or cells (at - 1) c → Keeps ps qs
    → Opens d ps old mid below p (drop at cells) → Opens d qs mid new below p (c ∷ []) → Opens d qs old new below p (drop (at - 1) cells)
Opens-next d ps qs old mid new below p cells at c some within is keeps h k = rw (drop-before cells at c some within is) (record {
  added = h.added ++ k.added;
  put = k.put ∙ ap (λ vs. vs ++ k.added) h.put ∙ append_assoc old h.added k.added;
  rows =
      pending-append d qs h.added k.added
      ∙ (λ i. k.rows i ++ (pending-kept d ps qs h.added keeps h.pathed ∙ h.rows) i)
      ∙ sym (in_instances-append d (in_tree d (rows_of (design_ports d)) below) p (instances (c ∷ [])) (instances (drop at cells)))
      ∙ ap (λ fs. in_instances d (in_tree d (rows_of (design_ports d)) below) p (fs ++ instances (drop at cells))) (append-nil (listed (instance_of c (cell_kind c))));
  pathed = pathed-append qs h.added k.added (pathed-kept ps qs h.added keeps h.pathed) k.pathed;
})

pub Opens-all : (d : Design) (ps : List Path) (old new : List Visit) (below : ℕ) (p : Path) (cells : List Cell) (at : ℕ) → at ≤ 0 → Opens d ps old new below p (drop at cells) → Opens d ps old new below p cells
Opens-all d ps old new below p cells at none h =
    let first : at ≡ 0 = omega arith in
    subst (λ n. Opens d ps old new below p (drop n cells)) first h

-- the first module
pub Leads-first : (d : Design) (a : Builder) (visits : List Visit) (v : Visit) (p : Path) → visits ≡ v ∷ [] → slice_get a.places.paths v.path ≡ Some p → Leads a a (in_tree d (rows_of (design_ports d)) (suc v.below) p v.body.now) (pending d a.places.paths visits)
Leads-first d a visits v p put path =
    let all = in_tree d (rows_of (design_ports d)) (suc v.below) p v.body.now in
    let here : path_at a.places.paths v.path ≡ p = get_or_from_slice_get a.places.paths v.path p [] path in
    subst (Leads a a all) ((λ i. in_tree d (rows_of (design_ports d)) (suc v.below) (sym here i) v.body.now) ∙ ap (pending d a.places.paths) (sym put)) (Leads-none a all)

-- no module is left
pub Leads-done : (d : Design) (a b : Builder) (all : List Driven) (paths : List Path) (visits : List Visit) → length visits ≡ 0 → Leads a b all (pending d paths visits) → Adds a b all
Leads-done d a b all paths [] none l = Leads-end a b all l
Leads-done d a b all paths (v ∷ visits) none l = absurd (omega arith)

-- one more module
pub one_pathed : (ps qs : List Path) (old new : List Visit) (v : Visit) (p : Path) → Keeps ps qs → ArePathed ps old → new ≡ old ++ v ∷ [] → slice_get qs v.path ≡ Some p → ArePathed qs new
one_pathed ps qs old new v p keeps h put path = rw put (pathed-append qs old (v ∷ []) (pathed-kept ps qs old keeps h) (slice_get_within qs v.path p path, tt))

-- the last module
pub last_pathed : (ps : List Path) (visits left : List Visit) (v : Visit) → visits ≡ left ++ v ∷ [] → ArePathed ps visits → v.path < length ps
last_pathed ps visits left v popped h = (pathed-behind ps left (v ∷ []) (subst (ArePathed ps) popped h)).0

pub left_pathed : (ps qs : List Path) (visits left : List Visit) (v : Visit) → Keeps ps qs → visits ≡ left ++ v ∷ [] → ArePathed ps visits → ArePathed qs left
left_pathed ps qs visits left v keeps popped h = pathed-kept ps qs left keeps (pathed-before ps left (v ∷ []) (subst (ArePathed ps) popped h))

-- a step: the last module is added, and its instances are opened
module _ (d : Design) (a s t : Builder) (k : Known) (all : List Driven) (visits left next : List Visit) (v : Visit) (popped : visits ≡ left ++ v ∷ []) (pathed : ArePathed s.places.paths visits) (g : Extends s.places t.places) (e : Extends t.places k) where
  pub visit_path : slice_get s.places.paths v.path ≡ Some (path_at s.places.paths v.path)
  visit_path = slice_get-get_or s.places.paths v.path [] (last_pathed s.places.paths visits left v popped pathed)

  pub step_leads : Leads a s all (pending d s.places.paths visits) → Adds s t (rows_of (design_ports d) (path_at s.places.paths v.path) v.body.now)
      → Opens d k.paths left next v.below (path_at s.places.paths v.path) v.body.now.cells → Leads a (record { places = k; parts = t.parts }) all (pending d k.paths next)
  step_leads l h o =
      let p = path_at s.places.paths v.path in
      let own = rows_of (design_ports d) p v.body.now in
      let inner = in_instances d (in_tree d (rows_of (design_ports d)) v.below) p (instances v.body.now.cells) in
      let kept : Keeps s.places.paths k.paths = (λ n x h. e.paths n x (g.paths n x h)) in
      let before : ArePathed s.places.paths left = pathed-before s.places.paths left (v ∷ []) (subst (ArePathed s.places.paths) popped pathed) in
      let whole : pending d s.places.paths visits ≡ own ++ (inner ++ pending d s.places.paths left) =
      ap (pending d s.places.paths) popped ∙ pending-append d s.places.paths left (v ∷ []) ∙ append_assoc own inner (pending d s.places.paths left) in
      let rest : inner ++ pending d s.places.paths left ≡ pending d k.paths next =
      (λ i. sym o.rows i ++ sym (pending-kept d s.places.paths k.paths left kept before) i) ∙ sym (pending-append d k.paths left o.added) ∙ ap (pending d k.paths) (sym o.put) in
      let added : Adds s (record { places = k; parts = t.parts }) own = subst (Adds s (record { places = k; parts = t.parts })) (append-nil own) (Adds-then s t (record { places = k; parts = t.parts }) own [] h (Adds-numbers t _ e refl)) in
      Leads-next a s (record { places = k; parts = t.parts }) all own (pending d k.paths next) (subst (Leads a s all) (whole ∙ ap (λ rows. own ++ rows) rest) l) added
