-- Bits that move twice, and designs whose rows move into those of another design.
use Rattle.std.proofs.Common.{◌≡◌, List, [], ◌∷◌, ◌++◌, map, inl, inr, refl, sym, ◌∙◌, ap, subst}
use Rattle.rtl_ir.specs.declared.module.Design.{Design}
use Rattle.rtl_ir.specs.declared.module.Module.{Module}
use Rattle.rtl_ir.specs.declared.wire.Role.TheVariants.{Output}
use Rattle.rtl_ir.specs.Flat.Driver.{StorePoints, PortPoints, Driver, Nothing, Given, Joined, Worked, Stored, Decided, Held, Raced, Remembered, Fetched, Driven}
use Rattle.rtl_ir.specs.Flat.Pick.{Pick, Is, Where, WhereReset}
use Rattle.rtl_ir.specs.Flat.Place.{Place, frame}
use Rattle.rtl_ir.specs.Flat.Point.{Point, Constant, At}
use Rattle.rtl_ir.specs.Flat.Tree.{driven_rows, output_places, places, role_points, root}
use Rattle.rtl_ir.specs.Ports.{ports_of}
use Rattle.net_model.specs.Lists.{In}
use Rattle.net_model.specs.Picked.{mark_of}
use Rattle.net_model.specs.Refine.{AreWellDriven, ModuleBelow, ModulesBelow, Refines}
use Rattle.net_model.proofs.Members.{In-map, map-append}
use Rattle.net_model.proofs.Relating.{role_is}
use Rattle.net_model.proofs.WellDriven.{one_driver}
use Rattle.flat_pass.proofs.Moving.{IsFair, Move, leaves, moved, moved_driver, moved_pick, moved_pins, moved_point, moved_port, moved_word}
use Rattle.flat_pass.proofs.MovedRuns.{GoesInto, moved_run}
use Rattle.flat_pass.proofs.Fixed.{row_stays}
use Rattle.flat_pass.proofs.Partners.{Paired}

module _ (go next : Move) where
  abbrev pub twice : Move
  twice q = next (go q)

  point_twice : (s : Point) → moved_point next (moved_point go s) ≡ moved_point twice s
  point_twice (Constant b) = refl
  point_twice (At q) = refl

  word_twice : (word : List Point) → moved_word next (moved_word go word) ≡ moved_word twice word
  word_twice [] = refl
  word_twice (s ∷ word) = λ i. point_twice s i ∷ word_twice word i

  words_twice : (words : List (List Point)) → map (moved_word next) (map (moved_word go) words) ≡ map (moved_word twice) words
  words_twice [] = refl
  words_twice (word ∷ words) = λ i. word_twice word i ∷ words_twice words i

  pins_twice : (s : StorePoints) → moved_pins next (moved_pins go s) ≡ moved_pins twice s
  pins_twice s = λ i. record {
    clk = point_twice s.clk i;
    en = point_twice s.en i;
    arst = point_twice s.arst i;
    srst = point_twice s.srst i;
    aload = point_twice s.aload i;
    ad = point_twice s.ad i;
    set = point_twice s.set i;
    clr = point_twice s.clr i;
    d = point_twice s.d i;
  }

  ports_twice : (ports : List PortPoints) → map (moved_port next) (map (moved_port go) ports) ≡ map (moved_port twice) ports
  ports_twice [] = refl
  ports_twice (port ∷ ports) =
      λ i. record { address = word_twice port.address i; enable = point_twice port.enable i; new = point_twice port.new i; follows = port.follows } ∷ ports_twice ports i

  pick_twice : (tree : Pick) → moved_pick next (moved_pick go tree) ≡ moved_pick twice tree
  pick_twice (Is s) = ap Is (point_twice s)
  pick_twice (Where signal patterns met other) =
      λ i. Where (word_twice signal i) (words_twice patterns i) (pick_twice met i) (pick_twice other i)
  pick_twice (WhereReset inverse patterns met other) =
      λ i. WhereReset inverse (words_twice patterns i) (pick_twice met i) (pick_twice other i)

  driver_twice : (d : Driver) → moved_driver next (moved_driver go d) ≡ moved_driver twice d
  driver_twice Nothing = refl
  driver_twice (Given at) = refl
  driver_twice (Joined from) = ap Joined (point_twice from)
  driver_twice (Worked shape inputs at) = ap (λ z. Worked shape z at) (words_twice inputs)
  driver_twice (Stored start shape at pins own) = ap (λ z. Stored start shape at z (twice own)) (pins_twice pins)
  driver_twice (Decided tree) = ap Decided (pick_twice tree)
  driver_twice (Held start value tree own) = λ i. Held start (point_twice value i) (pick_twice tree i) (twice own)
  driver_twice (Raced start clock clock_level reset reset_level tree own) =
      λ i. Raced start (point_twice clock i) clock_level (point_twice reset i) reset_level (pick_twice tree i) (twice own)
  driver_twice (Remembered start clock level address ports own) =
      λ i. Remembered start (point_twice clock i) level address (ports_twice ports i) (twice own)
  driver_twice (Fetched address first words) = λ i. Fetched (word_twice address i) first (word_twice words i)

  moved_twice : (x : Driven) → moved next (moved go x) ≡ moved twice x
  moved_twice x = λ i. record { place = twice x.place; driver = driver_twice x.driver i }

  leaves_moved : (tree : Pick) → leaves (moved_pick go tree) ≡ map (moved_point go) (leaves tree)
  leaves_moved (Is s) = refl
  leaves_moved (Where signal patterns met other) =
      (λ i. leaves_moved met i ++ leaves_moved other i) ∙ sym (map-append (moved_point go) (leaves met) (leaves other))
  leaves_moved (WhereReset inverse patterns met other) =
      (λ i. leaves_moved met i ++ leaves_moved other i) ∙ sym (map-append (moved_point go) (leaves met) (leaves other))

  fair_twice : (d : Driver) → IsFair go d → IsFair next (moved_driver go d) → IsFair twice d
  fair_twice (Held start value tree own) h k =
      λ s i. ap (mark_of (twice own)) (sym (point_twice s)) ∙ k (moved_point go s) (subst (In (moved_point go s)) (sym (leaves_moved tree)) (In-map (moved_point go) s (leaves tree) i)) ∙ h s i
  fair_twice (Raced start clock clock_level reset reset_level tree own) h k =
      λ s i. ap (mark_of (twice own)) (sym (point_twice s)) ∙ k (moved_point go s) (subst (In (moved_point go s)) (sym (leaves_moved tree)) (In-map (moved_point go) s (leaves tree) i)) ∙ h s i
  fair_twice Nothing h k = tt
  fair_twice (Given at) h k = tt
  fair_twice (Joined from) h k = tt
  fair_twice (Worked shape inputs at) h k = tt
  fair_twice (Stored start shape at pins own) h k = tt
  fair_twice (Decided tree) h k = tt
  fair_twice (Remembered start clock level address ports own) h k = tt
  fair_twice (Fetched address first words) h k = tt

  goes_twice : (es fs : List Driven) → ((y : Driven) → In y es → GoesInto next fs y) → (x : Driven) → GoesInto go es x → GoesInto twice fs x
  goes_twice es fs h x k =
      let l = h (moved go x) k.into in
      record { fair = fair_twice x.driver k.fair l.fair; into = subst (λ z. In z fs) (moved_twice x) l.into }

-- the rows of a module of a design move into those of a module of another one, of the same name and ports
pub record ModuleGoes (go : Move) (d e : Design) (m l : Module) : Type 0 where
  pub id : m.id ≡ l.id
  pub ports : ports_of m.wires ≡ ports_of l.wires
  pub roots : (q : Place) → q.path ≡ root m → go q ≡ q
  pub rows : (x : Driven) → In x (driven_rows d m) → GoesInto go (driven_rows e l) x

-- module by module
abbrev pub DesignGoes : Move → Design → Design → Type 0
DesignGoes go d e = Paired (ModuleGoes go d e) d.modules e.modules

same_root : (m l : Module) → m.id ≡ l.id → root m ≡ root l
same_root m l e = ap (λ z. frame [] z ∷ []) e

modules_twice : (go next : Move) (d e f : Design) (ds es fs : List Module) → Paired (ModuleGoes go d e) ds es → Paired (ModuleGoes next e f) es fs → Paired (ModuleGoes (twice go next) d f) ds fs
modules_twice go next d e f [] [] [] h k = tt
modules_twice go next d e f (m ∷ ds) (l ∷ es) (n ∷ fs) h k = (
  record {
    id = h.0.id ∙ k.0.id;
    ports = h.0.ports ∙ k.0.ports;
    roots = λ q r. ap next (h.0.roots q r) ∙ k.0.roots q (r ∙ same_root m l h.0.id);
    rows = λ x i. goes_twice go next (driven_rows e l) (driven_rows f n) k.0.rows x (h.0.rows x i);
  },
  modules_twice go next d e f ds es fs h.1 k.1,
)
modules_twice go next d e f [] (l ∷ es) fs h k = absurd h
modules_twice go next d e f (m ∷ ds) [] fs h k = absurd h
modules_twice go next d e f [] [] (n ∷ fs) h k = absurd k
modules_twice go next d e f (m ∷ ds) (l ∷ es) [] h k = absurd k

pub design_twice : (go next : Move) (d e f : Design) → DesignGoes go d e → DesignGoes next e f → DesignGoes (twice go next) d f
design_twice go next d e f h k = modules_twice go next d e f d.modules e.modules f.modules h k

-- where nothing moves
modules_rest : (d : Design) (ms : List Module) → Paired (ModuleGoes (λ q. q) d d) ms ms
modules_rest d [] = tt
modules_rest d (m ∷ ms) = (
  record {
    id = refl;
    ports = refl;
    roots = λ q e. refl;
    rows = λ x i. row_stays (λ q. q) (driven_rows d m) x refl (λ q j. refl) i;
  },
  modules_rest d ms,
)

pub design_rests : (d : Design) → DesignGoes (λ q. q) d d
design_rests d = modules_rest d d.modules

-- no known output bit is lost
module _ (go : Move) (d e : Design) (now : AreWellDriven e) where
  outputs_stay : (m : Module) → ((q : Place) → q.path ≡ root m → go q ≡ q) → (qs : List Place) → ((q : Place) → In q qs → q.path ≡ root m) → map go qs ≡ qs
  outputs_stay m h [] k = refl
  outputs_stay m h (q ∷ qs) k = λ i. h q (k q (inl refl)) i ∷ outputs_stay m h qs (λ r j. k r (inr j)) i

  outs : (m l : Module) → ModuleGoes go d e m l → map go (output_places m) ≡ output_places l
  outs m l h =
      outputs_stay m h.roots (output_places m) (λ q i. let z = role_is Output (root m) (ports_of m.wires) q i in z.2)
      ∙ ap (λ z. places (role_points Output (frame [] z ∷ []) (ports_of m.wires))) h.id
      ∙ ap (λ z. places (role_points Output (root l) z)) h.ports

  module_below : (m l : Module) → ModuleGoes go d e m l → In l e.modules → ModuleBelow d e m l
  module_below m l h i = (
    h.id,
    h.ports,
    λ order stimulus. moved_run go d e m l h.rows (outs m l h) ((one_driver e now).rows l i) order stimulus,
  )

  all_below : (ms ls : List Module) → Paired (ModuleGoes go d e) ms ls → ((l : Module) → In l ls → In l e.modules) → ModulesBelow d e ms ls
  all_below [] [] h i = tt
  all_below (m ∷ ms) (l ∷ ls) h i =
      (module_below m l h.0 (i l (inl refl)), all_below ms ls h.1 (λ z j. i z (inr j)))
  all_below [] (l ∷ ls) h i = absurd h
  all_below (m ∷ ms) [] h i = absurd h

  pub goes_refines : DesignGoes go d e → Refines d e
  goes_refines h = all_below d.modules e.modules h (λ l i. i)
