-- The flip-flops and latches that rules of processes become are such as a text can give.
use Rattle.std.proofs.Common.{◌≡◌, ℕ, ◌+◌, ◌<◌, ◌≤◌, Bool, true, false, if◌then◌else◌, List, [], ◌∷◌, ◌++◌, length, Option, Some, None, inl, inr, refl, arith, length-append}
use Rattle.std.specs.Prelude.{◌&&◌, codes, map, nat_lt, not}
use Rattle.std.specs.List.{All}
use Rattle.std.specs.Option.{is_some}
use Rattle.std.proofs.lemmas.Bool.{and_parts, ltb-true}
use Rattle.std.proofs.lemmas.List.{length-map}
use Rattle.std.proofs.lemmas.List.Elements.{All-append, All-cons, All-filter, All-head, All-nil, All-tail}
use Rattle.cell_types.specs.declared.level.Level.{Level}
use Rattle.rtl_sig.specs.declared.sig.SigBit.{SigBit}
use Rattle.rtl_sig.specs.declared.sig.SigBit.TheVariants.{Wire as OnWire}
use Rattle.rtl_ir.specs.Build.{Building, bits_param, integer_param, new_cell, pin_of}
use Rattle.rtl_ir.specs.Flat.Process.{Trigger, edge_trigger, level_trigger}
use Rattle.rtl_ir.specs.Follow.{all_joins, joins, source_at}
use Rattle.rtl_ir.specs.Rules.{acting_rules}
use Rattle.rtl_ir.specs.Signals.{constant_of, same_bit}
use Rattle.rtl_ir.specs.declared.cell.CellParam.{CellParam}
use Rattle.rtl_ir.specs.declared.cell.Pin.{Pin}
use Rattle.rtl_ir.specs.declared.follow.Join.{Join}
use Rattle.rtl_ir.specs.declared.module.Link.{Link}
use Rattle.rtl_ir.specs.declared.process.Event.{Event}
use Rattle.rtl_ir.specs.declared.process.Event.TheVariants.{Always, Edge, Global, High, Init, Low, Negedge, Posedge}
use Rattle.rtl_ir.specs.declared.process.Process.{Process}
use Rattle.rtl_ir.specs.declared.process.SyncRule.{SyncRule}
use Rattle.rtl_ir.specs.declared.wire.Wire.{Wire}
use Rattle.net_model.proofs.Ranges.{each_both, each_filter, each_more, each_none}
use Rattle.net_model.specs.Proc.Sync.{Class, Loads, Plain, Resets, Run, class_of, classed, classed_behind, clocked_params, edge_and_level, edge_cell, edge_lines, global_cell, in_turn, left_side, level_cell, level_side, loaded_cell, one_rule, option_list, plain_lines, polarity_of, right_side, rules_step, runs_of, same_class, two_rules}
use Rattle.net_model.specs.Within.{Each}
use Rattle.rtl_readable.specs.Readable.{IsBitOf, IsCellParam, IsEvent, IsLink, IsPin, IsProcess, IsRule, IsSignal}
use Rattle.readable_laws.specs.Extends.{Extends}
use Rattle.readable_laws.proofs.Cells.{apart_distinct, number_is, params_one, params_two, pins_three, pins_two, polarity_is}
use Rattle.readable_laws.proofs.Extending.{IsNewCell, extends_both, extends_cell, extends_none, pins_later}
use Rattle.readable_passes.proofs.Replaced.{all_each}
use Rattle.readable_passes.proofs.TreeBits.{JoinIs, joins_are}

module _ (old : Building) where
  abbrev wires : List Wire
  wires = old.body.wires

  -- a run of places, over the wires of the module as it was
  record AreRun (js : List Join) : Type 0 where
    places : Each (JoinIs wires) js
    count : length js ≤ 4096

  abbrev RunIs : Run → Type 0
  RunIs run = AreRun run.places

  abbrev TriggerIs : Trigger → Type 0
  TriggerIs t = IsSignal wires t.signal

  lefts_are : (js : List Join) → Each (JoinIs wires) js → All (IsBitOf wires) (left_side js)
  lefts_are [] h = All-nil (IsBitOf wires)
  lefts_are (j ∷ js) h = All-cons (IsBitOf wires) (OnWire j.bit) (left_side js) (h j (inl refl)).bit (lefts_are js (λ x i. h x (inr i)))

  sources_are : (js : List Join) → Each (JoinIs wires) js → All (IsBitOf wires) (right_side js)
  sources_are [] h = All-nil (IsBitOf wires)
  sources_are (j ∷ js) h = All-cons (IsBitOf wires) j.source (right_side js) (h j (inl refl)).source (sources_are js (λ x i. h x (inr i)))

  left_is : (js : List Join) → AreRun js → IsSignal wires (left_side js)
  left_is js h = record { bits = lefts_are js h.places; width = omega (arith, h.count, length-map js (λ (j : Join). OnWire j.bit)) }

  right_is : (js : List Join) → AreRun js → IsSignal wires (right_side js)
  right_is js h = record { bits = sources_are js h.places; width = omega (arith, h.count, length-map js (λ (j : Join). j.source)) }

  -- what a level rule gives the places of a run
  abbrev OptionIs : Option SigBit → Type 0
  OptionIs None = Unit {0}
  OptionIs (Some s) = IsBitOf wires s

  option_is : (o : Option SigBit) → OptionIs o → All (IsBitOf wires) (option_list o)
  option_is None h = All-nil (IsBitOf wires)
  option_is (Some s) h = All-cons (IsBitOf wires) s [] h (All-nil (IsBitOf wires))

  option_short : (o : Option SigBit) → length (option_list o) ≤ 1
  option_short None = omega arith
  option_short (Some s) = omega arith

  source_is : (levels : List Join) → Each (JoinIs wires) levels → (j : Join) → OptionIs (source_at levels j.bit)
  source_is [] h j = tt
  source_is (l ∷ levels) h j = by (same_bit l.bit j.bit) (source_is levels (λ x i. h x (inr i)) j)
    where
      by : (t : Bool) → OptionIs (source_at levels j.bit) → OptionIs (if t then Some l.source else source_at levels j.bit)
      by true later = (h l (inl refl)).source
      by false later = later

  given_are : (levels js : List Join) → Each (JoinIs wires) levels → All (IsBitOf wires) (level_side levels js)
  given_are levels [] h = All-nil (IsBitOf wires)
  given_are levels (j ∷ js) h = All-append (IsBitOf wires) (option_list (source_at levels j.bit)) (level_side levels js) (option_is (source_at levels j.bit) (source_is levels h j)) (given_are levels js h)

  given_short : (levels js : List Join) → length (level_side levels js) ≤ length js
  given_short levels [] = omega arith
  given_short levels (j ∷ js) =
      omega (arith, length-append (option_list (source_at levels j.bit)) (level_side levels js), option_short (source_at levels j.bit), given_short levels js)

  given_is : (levels js : List Join) → Each (JoinIs wires) levels → AreRun js → IsSignal wires (level_side levels js)
  given_is levels js h run = record { bits = given_are levels js h; width = omega (arith, given_short levels js, run.count) }

  -- a new cell over the wires of the module as it was
  cell_adds : (kind : List ℕ) (params : List CellParam) (pins : List Pin) (b : Building) → IsNewCell kind params (map (λ (p : Pin). p.name) pins) → All (IsPin wires) pins → Extends old b → Extends b (new_cell kind params pins b)
  cell_adds kind params pins b is all more = extends_cell kind params pins b is (pins_later old b more pins all)

  -- the parameters WIDTH and CLK_POLARITY
  width_is : (js : List Join) → AreRun js → IsCellParam (integer_param (codes "\\WIDTH") (length js))
  width_is js h = number_is (codes "\\WIDTH") (length js) refl (omega (arith, h.count))

  clock_is : (level : Level) → IsCellParam (integer_param (codes "\\CLK_POLARITY") (polarity_of level))
  clock_is level = polarity_is (codes "\\CLK_POLARITY") level refl

  clocked_are : (e : Trigger) (js : List Join) → AreRun js → All IsCellParam (clocked_params e js)
  clocked_are e js h = params_two (integer_param (codes "\\WIDTH") (length js)) (integer_param (codes "\\CLK_POLARITY") (polarity_of e.level)) (width_is js h) (clock_is e.level)

  dff_adds : (e : Trigger) (js : List Join) (b : Building) → TriggerIs e → AreRun js → Extends old b
      → Extends b (new_cell (codes "$dff") (clocked_params e js) (pin_of (codes "\\CLK") e.signal ∷ pin_of (codes "\\D") (right_side js) ∷ pin_of (codes "\\Q") (left_side js) ∷ []) b)
  dff_adds e js b he h more =
      cell_adds (codes "$dff") (clocked_params e js) (pin_of (codes "\\CLK") e.signal ∷ pin_of (codes "\\D") (right_side js) ∷ pin_of (codes "\\Q") (left_side js) ∷ []) b
      (record { kind_name = refl; values = clocked_are e js h; distinct_params = apart_distinct (codes "\\WIDTH" ∷ codes "\\CLK_POLARITY" ∷ []) refl; distinct_pins = apart_distinct (codes "\\CLK" ∷ codes "\\D" ∷ codes "\\Q" ∷ []) refl })
      (pins_three wires (pin_of (codes "\\CLK") e.signal) (pin_of (codes "\\D") (right_side js)) (pin_of (codes "\\Q") (left_side js)) (record { name = refl; sig = he }) (record { name = refl; sig = right_is js h }) (record { name = refl; sig = left_is js h }))
      more

  loaded_adds : (e l : Trigger) (class : Class) (given : List SigBit) (js : List Join) (b : Building) → TriggerIs e → TriggerIs l → IsSignal wires given → length given ≤ 4096 → AreRun js → Extends old b → Extends b (loaded_cell e l class given js b)
  loaded_adds e l Plain given js b he hl hg few h more = dff_adds e js b he h more
  loaded_adds e l Resets given js b he hl hg few h more =
      cell_adds (codes "$adff") _ (pin_of (codes "\\CLK") e.signal ∷ pin_of (codes "\\ARST") l.signal ∷ pin_of (codes "\\D") (right_side js) ∷ pin_of (codes "\\Q") (left_side js) ∷ []) b
      (record {
        kind_name = refl;
        values = All-append IsCellParam (clocked_params e js) (integer_param (codes "\\ARST_POLARITY") (polarity_of l.level) ∷ bits_param (codes "\\ARST_VALUE") (map constant_of given) ∷ []) (clocked_are e js h)
            (params_two (integer_param (codes "\\ARST_POLARITY") (polarity_of l.level)) (bits_param (codes "\\ARST_VALUE") (map constant_of given))
            (polarity_is (codes "\\ARST_POLARITY") l.level refl)
            (record { name = refl; value = omega (arith, few, length-map given constant_of) }));
        distinct_params = apart_distinct (codes "\\WIDTH" ∷ codes "\\CLK_POLARITY" ∷ codes "\\ARST_POLARITY" ∷ codes "\\ARST_VALUE" ∷ []) refl;
        distinct_pins = apart_distinct (codes "\\CLK" ∷ codes "\\ARST" ∷ codes "\\D" ∷ codes "\\Q" ∷ []) refl;
      })
      (All-cons (IsPin wires) (pin_of (codes "\\CLK") e.signal) (pin_of (codes "\\ARST") l.signal ∷ pin_of (codes "\\D") (right_side js) ∷ pin_of (codes "\\Q") (left_side js) ∷ []) (record { name = refl; sig = he })
      (pins_three wires (pin_of (codes "\\ARST") l.signal) (pin_of (codes "\\D") (right_side js)) (pin_of (codes "\\Q") (left_side js)) (record { name = refl; sig = hl }) (record { name = refl; sig = right_is js h }) (record { name = refl; sig = left_is js h })))
      more
  loaded_adds e l Loads given js b he hl hg few h more =
      cell_adds (codes "$aldff") _ (pin_of (codes "\\CLK") e.signal ∷ pin_of (codes "\\ALOAD") l.signal ∷ pin_of (codes "\\AD") given ∷ pin_of (codes "\\D") (right_side js) ∷ pin_of (codes "\\Q") (left_side js) ∷ []) b
      (record {
        kind_name = refl;
        values = All-append IsCellParam (clocked_params e js) (integer_param (codes "\\ALOAD_POLARITY") (polarity_of l.level) ∷ []) (clocked_are e js h)
            (params_one (integer_param (codes "\\ALOAD_POLARITY") (polarity_of l.level))
            (polarity_is (codes "\\ALOAD_POLARITY") l.level refl));
        distinct_params = apart_distinct (codes "\\WIDTH" ∷ codes "\\CLK_POLARITY" ∷ codes "\\ALOAD_POLARITY" ∷ []) refl;
        distinct_pins = apart_distinct (codes "\\CLK" ∷ codes "\\ALOAD" ∷ codes "\\AD" ∷ codes "\\D" ∷ codes "\\Q" ∷ []) refl;
      })
      (All-cons (IsPin wires) (pin_of (codes "\\CLK") e.signal) (pin_of (codes "\\ALOAD") l.signal ∷ pin_of (codes "\\AD") given ∷ pin_of (codes "\\D") (right_side js) ∷ pin_of (codes "\\Q") (left_side js) ∷ []) (record { name = refl; sig = he })
      (All-cons (IsPin wires) (pin_of (codes "\\ALOAD") l.signal) (pin_of (codes "\\AD") given ∷ pin_of (codes "\\D") (right_side js) ∷ pin_of (codes "\\Q") (left_side js) ∷ []) (record { name = refl; sig = hl })
      (pins_three wires (pin_of (codes "\\AD") given) (pin_of (codes "\\D") (right_side js)) (pin_of (codes "\\Q") (left_side js)) (record { name = refl; sig = hg }) (record { name = refl; sig = right_is js h }) (record { name = refl; sig = left_is js h }))))
      more

  -- a trigger that may be there
  abbrev MayTrigger : Option Trigger → Type 0
  MayTrigger None = Unit {0}
  MayTrigger (Some t) = TriggerIs t

  edge_adds : (e : Trigger) (l : Option Trigger) (levels : List Join) (run : Run) (b : Building) → TriggerIs e → MayTrigger l → Each (JoinIs wires) levels → RunIs run → Extends old b → Extends b (edge_cell e l levels run b)
  edge_adds e None levels run b he hl hs h more = dff_adds e run.places b he h more
  edge_adds e (Some l) levels run b he hl hs h more =
      loaded_adds e l run.class (level_side levels run.places) run.places b he hl (given_is levels run.places hs h) (omega (arith, given_short levels run.places, h.count)) h more

  global_adds : (run : Run) (b : Building) → RunIs run → Extends old b → Extends b (global_cell run b)
  global_adds run b h more =
      cell_adds (codes "$ff") (integer_param (codes "\\WIDTH") (length run.places) ∷ []) (pin_of (codes "\\D") (right_side run.places) ∷ pin_of (codes "\\Q") (left_side run.places) ∷ []) b
      (record { kind_name = refl; values = params_one (integer_param (codes "\\WIDTH") (length run.places)) (width_is run.places h); distinct_params = apart_distinct (codes "\\WIDTH" ∷ []) refl; distinct_pins = apart_distinct (codes "\\D" ∷ codes "\\Q" ∷ []) refl })
      (pins_two wires (pin_of (codes "\\D") (right_side run.places)) (pin_of (codes "\\Q") (left_side run.places)) (record { name = refl; sig = right_is run.places h }) (record { name = refl; sig = left_is run.places h }))
      more

  level_adds : (l : Trigger) (run : Run) (b : Building) → TriggerIs l → RunIs run → Extends old b → Extends b (level_cell l run b)
  level_adds l run b hl h more =
      cell_adds (codes "$dlatch") (integer_param (codes "\\WIDTH") (length run.places) ∷ integer_param (codes "\\EN_POLARITY") (polarity_of l.level) ∷ []) (pin_of (codes "\\EN") l.signal ∷ pin_of (codes "\\D") (right_side run.places) ∷ pin_of (codes "\\Q") (left_side run.places) ∷ []) b
      (record {
        kind_name = refl;
        values = params_two (integer_param (codes "\\WIDTH") (length run.places)) (integer_param (codes "\\EN_POLARITY") (polarity_of l.level)) (width_is run.places h)
            (polarity_is (codes "\\EN_POLARITY") l.level refl);
        distinct_params = apart_distinct (codes "\\WIDTH" ∷ codes "\\EN_POLARITY" ∷ []) refl;
        distinct_pins = apart_distinct (codes "\\EN" ∷ codes "\\D" ∷ codes "\\Q" ∷ []) refl;
      })
      (pins_three wires (pin_of (codes "\\EN") l.signal) (pin_of (codes "\\D") (right_side run.places)) (pin_of (codes "\\Q") (left_side run.places)) (record { name = refl; sig = hl }) (record { name = refl; sig = right_is run.places h }) (record { name = refl; sig = left_is run.places h }))
      more

  -- steps in order
  turns_add : {A : Type 0} (P : A → Type 0) (step : A → Building → Building) → ((x : A) (b : Building) → P x → Extends old b → Extends b (step x b)) → (xs : List A) (b : Building) → Each P xs → Extends old b → Extends b (in_turn step xs b)
  turns_add P step adds [] b h more = extends_none b
  turns_add P step adds (x ∷ xs) b h more =
      let one = adds x b (h x (inl refl)) more in
      extends_both b (step x b) (in_turn step xs (step x b)) one (turns_add P step adds xs (step x b) (λ y i. h y (inr i)) (extends_both old b (step x b) more one))

  -- runs of places
  behind_are : (f : Join → Class) (class : Class) (run : List Join) (n : ℕ) (js : List Join) → length run ≡ n → n ≤ 4096 → Each (JoinIs wires) run → Each (JoinIs wires) js → Each RunIs (classed_behind f class run n js)
  behind_are f class run n [] e few h k = each_more RunIs (record { class = class; places = run }) [] (record { places = h; count = omega (arith, e, few) }) (each_none RunIs)
  behind_are f class run n (j ∷ js) e few h k =
      by (same_class class (f j) && nat_lt n 4096) refl
      (λ room. behind_are f class (run ++ j ∷ []) (n + 1) js (omega (arith, e, length-append run (j ∷ []))) room (each_both (JoinIs wires) run (j ∷ []) h (each_more (JoinIs wires) j [] (k j (inl refl)) (each_none (JoinIs wires)))) (λ x i. k x (inr i)))
      (behind_are f (f j) (j ∷ []) 1 js refl (omega arith) (each_more (JoinIs wires) j [] (k j (inl refl)) (each_none (JoinIs wires))) (λ x i. k x (inr i)))
    where
      by : (t : Bool) → (same_class class (f j) && nat_lt n 4096) ≡ t → (n + 1 ≤ 4096 → Each RunIs (classed_behind f class (run ++ j ∷ []) (n + 1) js)) → Each RunIs (classed_behind f (f j) (j ∷ []) 1 js)
          → Each RunIs (if t then classed_behind f class (run ++ j ∷ []) (n + 1) js else record { class = class; places = run } ∷ classed_behind f (f j) (j ∷ []) 1 js)
      by true c longer cut =
          let room : n < 4096 = ltb-true n 4096 (and_parts (same_class class (f j)) (nat_lt n 4096) c).1 in
          longer (omega (arith, room))
      by false c longer cut = each_more RunIs (record { class = class; places = run }) (classed_behind f (f j) (j ∷ []) 1 js) (record { places = h; count = omega (arith, e, few) }) cut

  classed_are : (f : Join → Class) (js : List Join) → Each (JoinIs wires) js → Each RunIs (classed f js)
  classed_are f [] h = each_none RunIs
  classed_are f (j ∷ js) h = behind_are f (f j) (j ∷ []) 1 js refl (omega arith) (each_more (JoinIs wires) j [] (h j (inl refl)) (each_none (JoinIs wires))) (λ x i. h x (inr i))

  places_of : (l : Link) → IsLink wires l → Each (JoinIs wires) (joins l.left l.right)
  places_of l is = joins_are wires l.left l.right is.left.bits is.right.bits

  edges_add : (e : Trigger) (l : Option Trigger) (levels : List Join) (lines : List Link) (b : Building) → TriggerIs e → MayTrigger l → Each (JoinIs wires) levels → Each (IsLink wires) lines → Extends old b → Extends b (edge_lines e l levels lines b)
  edges_add e l levels lines b he hl hs h more =
      turns_add (IsLink wires) (λ (line : Link). in_turn (edge_cell e l levels) (classed (λ (j : Join). class_of (source_at levels j.bit)) (joins line.left line.right)))
      (λ line c is now. turns_add RunIs (edge_cell e l levels) (λ run d r later. edge_adds e l levels run d he hl hs r later) (classed (λ (j : Join). class_of (source_at levels j.bit)) (joins line.left line.right)) c (classed_are (λ (j : Join). class_of (source_at levels j.bit)) (joins line.left line.right) (places_of line is)) now)
      lines b h more

  plains_add : (cell : Run → Building → Building) → ((run : Run) (b : Building) → RunIs run → Extends old b → Extends b (cell run b)) → (asked : Join → Bool) (lines : List Link) (b : Building) → Each (IsLink wires) lines → Extends old b → Extends b (plain_lines cell asked lines b)
  plains_add cell adds asked lines b h more =
      turns_add (IsLink wires) (λ (line : Link). in_turn cell (runs_of Plain (classed (λ (j : Join). if asked j then Plain else Loads) (joins line.left line.right))))
      (λ line c is now. turns_add RunIs cell adds (runs_of Plain (classed (λ (j : Join). if asked j then Plain else Loads) (joins line.left line.right))) c
      (each_filter RunIs (λ (run : Run). same_class run.class Plain) (classed (λ (j : Join). if asked j then Plain else Loads) (joins line.left line.right)) (classed_are (λ (j : Join). if asked j then Plain else Loads) (joins line.left line.right) (places_of line is))) now)
      lines b h more

  all_places : (lines : List Link) → Each (IsLink wires) lines → Each (JoinIs wires) (all_joins lines)
  all_places [] h = each_none (JoinIs wires)
  all_places (l ∷ lines) h = each_both (JoinIs wires) (joins l.left l.right) (all_joins lines) (places_of l (h l (inl refl))) (all_places lines (λ x i. h x (inr i)))

  both_add : (e : Trigger) (edges : List Link) (l : Trigger) (levels : List Link) (b : Building) → TriggerIs e → TriggerIs l → Each (IsLink wires) edges → Each (IsLink wires) levels → Extends old b → Extends b (edge_and_level e edges l levels b)
  both_add e edges l levels b he hl h k more =
      let next = edge_lines e (Some l) (all_joins levels) edges b in
      let one = edges_add e (Some l) (all_joins levels) edges b he hl (all_places levels k) h more in
      extends_both b next (edge_and_level e edges l levels b) one
      (plains_add (level_cell l) (λ run c r now. level_adds l run c hl r now) (λ (j : Join). not (is_some (source_at (all_joins edges) j.bit))) levels next k (extends_both old b next more one))

  one_adds : (e l : Option Trigger) (event : Event) (lines : List Link) (b : Building) → MayTrigger e → MayTrigger l → Each (IsLink wires) lines → Extends old b → Extends b (one_rule e l event lines b)
  one_adds (Some e) l event lines b he hl h more = edges_add e None [] lines b he tt (each_none (JoinIs wires)) h more
  one_adds None (Some l) event lines b he hl h more = plains_add (level_cell l) (λ run c r now. level_adds l run c hl r now) (λ j. true) lines b h more
  one_adds None None Global lines b he hl h more = plains_add global_cell global_adds (λ j. true) lines b h more
  one_adds None None (Low signal) lines b he hl h more = extends_none b
  one_adds None None (High signal) lines b he hl h more = extends_none b
  one_adds None None (Posedge signal) lines b he hl h more = extends_none b
  one_adds None None (Negedge signal) lines b he hl h more = extends_none b
  one_adds None None (Edge signal) lines b he hl h more = extends_none b
  one_adds None None Init lines b he hl h more = extends_none b
  one_adds None None Always lines b he hl h more = extends_none b

  two_add : (e f l k : Option Trigger) (as' bs : List Link) (b : Building) → MayTrigger e → MayTrigger f → MayTrigger l → MayTrigger k → Each (IsLink wires) as' → Each (IsLink wires) bs → Extends old b → Extends b (two_rules e f l k as' bs b)
  two_add (Some e) f l (Some k) as' bs b he hf hl hk h i more = both_add e as' k bs b he hk h i more
  two_add None (Some f) (Some l) k as' bs b he hf hl hk h i more = both_add f bs l as' b hf hl i h more
  two_add (Some e) (Some f) (Some l) None as' bs b he hf hl hk h i more = both_add f bs l as' b hf hl i h more
  two_add (Some e) (Some f) None None as' bs b he hf hl hk h i more = extends_none b
  two_add (Some e) None (Some l) None as' bs b he hf hl hk h i more = extends_none b
  two_add (Some e) None None None as' bs b he hf hl hk h i more = extends_none b
  two_add None (Some f) None k as' bs b he hf hl hk h i more = extends_none b
  two_add None None l k as' bs b he hf hl hk h i more = extends_none b

  edge_is : (e : Event) → IsEvent wires e → MayTrigger (edge_trigger e)
  edge_is (Posedge signal) is = is.signal
  edge_is (Negedge signal) is = is.signal
  edge_is (Low signal) is = tt
  edge_is (High signal) is = tt
  edge_is (Edge signal) is = tt
  edge_is Global is = tt
  edge_is Init is = tt
  edge_is Always is = tt

  level_is : (e : Event) → IsEvent wires e → MayTrigger (level_trigger e)
  level_is (Low signal) is = is.signal
  level_is (High signal) is = is.signal
  level_is (Posedge signal) is = tt
  level_is (Negedge signal) is = tt
  level_is (Edge signal) is = tt
  level_is Global is = tt
  level_is Init is = tt
  level_is Always is = tt

  rules_add : (rules : List SyncRule) (b : Building) → All (IsRule wires) rules → Extends old b → Extends b (rules_step rules b)
  rules_add [] b all more = extends_none b
  rules_add (r ∷ []) b all more =
      let one = All-head (IsRule wires) r [] all in
      one_adds (edge_trigger r.event) (level_trigger r.event) r.event r.updates b (edge_is r.event one.event) (level_is r.event one.event) (all_each (IsLink wires) r.updates one.updates) more
  rules_add (r ∷ s ∷ []) b all more =
      let one = All-head (IsRule wires) r (s ∷ []) all in
      let other = All-head (IsRule wires) s [] (All-tail (IsRule wires) r (s ∷ []) all) in
      two_add (edge_trigger r.event) (edge_trigger s.event) (level_trigger r.event) (level_trigger s.event) r.updates s.updates b (edge_is r.event one.event) (edge_is s.event other.event) (level_is r.event one.event) (level_is s.event other.event) (all_each (IsLink wires) r.updates one.updates) (all_each (IsLink wires) s.updates other.updates) more
  rules_add (r ∷ s ∷ t ∷ rules) b all more = extends_none b

  -- the rules of all processes
  pub processes_add : (ps : List Process) (b : Building) → Each (IsProcess wires) ps → Extends old b → Extends b (in_turn (λ (p : Process). rules_step (acting_rules p.syncs)) ps b)
  processes_add ps b h more =
      turns_add (IsProcess wires) (λ (p : Process). rules_step (acting_rules p.syncs)) (λ p c is now. rules_add (acting_rules p.syncs) c (All-filter _ (IsRule wires) p.syncs is.rules) now) ps b h more
