-- The trees of a process, a run at a time: what is made of them is as wide as the run, and each cell drives a fresh wire.
use Rattle.std.proofs.Common.{◌≡◌, ◌≤◌, ◌<◌, ℕ, ◌+◌, Bool, true, false, List, [], ◌∷◌, ◌++◌, length, Option, Some, None, inl, inr, refl, sym, ◌∙◌, subst, arith}
use Rattle.std.specs.Prelude.{codes, if◌then◌else◌, map, zip, ◌||◌}
use Rattle.std.specs.Option.{option_map_or, option_or}
use Rattle.std.proofs.lemmas.Bool.{ltb-false, or_parts}
use Rattle.std.proofs.lemmas.List.{length-map}
use Rattle.cell_types.specs.declared.word.EqualKind.TheVariants.{Eq}
use Rattle.cell_types.specs.declared.word.FoldKind.TheVariants.{Or}
use Rattle.cell_types.specs.declared.word.WordKind.TheVariants.{Equal, Fold, Mux}
use Rattle.rtl_bits.specs.declared.bit.Bit.TheVariants.{S1}
use Rattle.rtl_sig.specs.declared.sig.SigBit.{SigBit}
use Rattle.rtl_sig.specs.declared.sig.SigBit.TheVariants.{Fixed, Wire as OnWire}
use Rattle.rtl_sig.specs.declared.sig.WireBit.{WireBit}
use Rattle.rtl_ir.specs.Assigns.{assigned, cases_assigns, last_source}
use Rattle.rtl_ir.specs.Build.{Building, integer_param, made_name, pin_of}
use Rattle.rtl_ir.specs.Faults.ProcessLimits.{cases_pass, passes_limit, switches_pass}
use Rattle.rtl_ir.specs.Follow.{all_joins}
use Rattle.rtl_ir.specs.declared.follow.Join.{Join}
use Rattle.rtl_ir.specs.Signals.{same_bit, same_signal}
use Rattle.rtl_ir.specs.Tree.{Switches, NoSwitch, OneSwitch, Cases, NoCase, OneCase}
use Rattle.rtl_ir.specs.declared.module.Link.{Link}
use Rattle.net_model.proofs.Ranges.{JoinIn, OptionIn, all_joins_in, each_both, each_filter, each_more, each_none}
use Rattle.net_model.specs.Lists.{In}
use Rattle.net_model.specs.Proc.Mux.{Made, Trees, asked_places, assigns_run, cases_value, equal_cell, is_asked, is_default, joined_bits, made_match, match_bit, mux_cell, pattern_bit, pattern_bits, run_value, same_case, switches_value, with_case}
use Rattle.net_model.specs.Within.{BitIn, CasesIn, Each, LinkIn, SigIn, SwitchesIn}
use Rattle.build_laws.proofs.CellFits.{eq_whole, mux_whole, or_whole, whole_length, whole_within}
use Rattle.mux_laws.proofs.FrameGrowing.{GrowsBy, driver_there, grows_both, grows_driver, grows_none, no_fewer}

-- what stands among some wires does so among more
module _ (few many : ℕ) (more : few ≤ many) where
  pub bit_later : (s : SigBit) → BitIn few s → BitIn many s
  bit_later (Fixed c) h = tt
  bit_later (OnWire b) h = omega (arith, more, h)

  pub sig_later : (signal : List SigBit) → SigIn few signal → SigIn many signal
  sig_later signal h s i = bit_later s (h s i)

-- how many wires there are
abbrev pub count_of : Building → ℕ
count_of b = length b.body.wires

-- a bit that is given with what was built for it
pub record GivesBit (old : Building) (s : SigBit) (new : Building) : Type 0 where
  pub grows : GrowsBy old new []
  pub within : BitIn (count_of new) s

-- several bits
pub record GivesBits (old : Building) (width : ℕ) (signal : List SigBit) (new : Building) : Type 0 where
  pub grows : GrowsBy old new []
  pub wide : length signal ≡ width
  pub within : SigIn (count_of new) signal

-- a place of a pattern and of a signal
abbrev pub PlaceIn : ℕ → SigBit × SigBit → Type 0
PlaceIn n q = BitIn n q.0 × BitIn n q.1

firsts_in : (n : ℕ) (places : List (SigBit × SigBit)) → Each (PlaceIn n) places → SigIn n (map (λ (q : SigBit × SigBit). q.0) places)
firsts_in n [] h = each_none (BitIn n)
firsts_in n (q ∷ places) h = each_more (BitIn n) q.0 _ (h q (inl refl)).0 (firsts_in n places (λ x i. h x (inr i)))

seconds_in : (n : ℕ) (places : List (SigBit × SigBit)) → Each (PlaceIn n) places → SigIn n (map (λ (q : SigBit × SigBit). q.1) places)
seconds_in n [] h = each_none (BitIn n)
seconds_in n (q ∷ places) h = each_more (BitIn n) q.1 _ (h q (inl refl)).1 (seconds_in n places (λ x i. h x (inr i)))

-- a comparison
gives_equal : (b : Building) (places : List (SigBit × SigBit)) → 0 < length places → length places ≤ 4096 → Each (PlaceIn (count_of b)) places → GivesBit b (equal_cell places b).0 (equal_cell places b).1
gives_equal b places some few h =
    let params = integer_param (codes "\\A_SIGNED") 0 ∷ integer_param (codes "\\A_WIDTH") (length places) ∷ integer_param (codes "\\B_SIGNED") 0 ∷ integer_param (codes "\\B_WIDTH") (length places) ∷ integer_param (codes "\\Y_WIDTH") 1 ∷ [] in
    let a : List SigBit = map (λ (q : SigBit × SigBit). q.1) places in
    let c : List SigBit = map (λ (q : SigBit × SigBit). q.0) places in
    let pins = pin_of (codes "\\A") a ∷ pin_of (codes "\\B") c ∷ [] in
    let there = driver_there b (Equal Eq) (codes "$eq") params pins 1 in
    let more : count_of b ≤ count_of (equal_cell places b).1 = omega (arith, there) in
    record {
      grows =
          grows_driver b (Equal Eq) (codes "$eq") params pins 1
          (eq_whole (count_of (equal_cell places b).1) (made_name b.next) (count_of b) there (length places) a c
          (length-map places (λ (q : SigBit × SigBit). q.1)) (length-map places (λ (q : SigBit × SigBit). q.0)) some few
          (sig_later (count_of b) (count_of (equal_cell places b).1) more a (seconds_in (count_of b) places h))
          (sig_later (count_of b) (count_of (equal_cell places b).1) more c (firsts_in (count_of b) places h)))
          refl;
      within = there;
    }

-- what a pattern gives
gives_pattern : (b : Building) (places : List (SigBit × SigBit)) → length places ≤ 4096 → Each (PlaceIn (count_of b)) places → GivesBit b (pattern_bit places b).0 (pattern_bit places b).1
gives_pattern b [] few h = record { grows = grows_none b; within = tt }
gives_pattern b ((Fixed S1, s) ∷ []) few h = record { grows = grows_none b; within = (h (Fixed S1, s) (inl refl)).1 }
gives_pattern b (q ∷ places) few h = gives_equal b (q ∷ places) (omega arith) few h

-- the places that are asked are no more than the signal has
zip_places : (n : ℕ) (pattern signal : List SigBit) → SigIn n pattern → SigIn n signal → Each (PlaceIn n) (zip pattern signal)
zip_places n [] signal h k = each_none (PlaceIn n)
zip_places n (p ∷ pattern) [] h k = each_none (PlaceIn n)
zip_places n (p ∷ pattern) (s ∷ signal) h k =
    each_more (PlaceIn n) (p, s) (zip pattern signal) (h p (inl refl), k s (inl refl)) (zip_places n pattern signal (λ x i. h x (inr i)) (λ x i. k x (inr i)))

pub asked_few : (pattern signal : List SigBit) → length (asked_places pattern signal) ≤ length signal
asked_few [] signal = omega arith
asked_few (p ∷ pattern) [] = omega arith
asked_few (p ∷ pattern) (s ∷ signal) = by (is_asked (p, s)) (asked_few pattern signal)
  where
    by : (t : Bool) → length (asked_places pattern signal) ≤ length signal → length (if t then (p, s) ∷ asked_places pattern signal else asked_places pattern signal) ≤ length (s ∷ signal)
    by true h = omega (arith, h)
    by false h = omega (arith, h)

-- what patterns give
gives_patterns : (b : Building) (signal : List SigBit) (patterns : List (List SigBit)) → length signal ≤ 4096 → SigIn (count_of b) signal → Each (SigIn (count_of b)) patterns → GivesBits b (length patterns) (pattern_bits signal patterns b).0 (pattern_bits signal patterns b).1
gives_patterns b signal [] few h k = record { grows = grows_none b; wide = refl; within = each_none (BitIn (count_of b)) }
gives_patterns b signal (p ∷ patterns) few h k =
    let places : List (SigBit × SigBit) = asked_places p signal in
    let first = gives_pattern b places (omega (arith, asked_few p signal, few)) (each_filter (PlaceIn (count_of b)) is_asked (zip p signal) (zip_places (count_of b) p signal (k p (inl refl)) h)) in
    let next : Building = (pattern_bit places b).1 in
    let more = no_fewer b next [] first.grows in
    let rest = gives_patterns next signal patterns few (sig_later (count_of b) (count_of next) more signal h) (λ q i. sig_later (count_of b) (count_of next) more q (k q (inr i))) in
    let last : Building = (pattern_bits signal patterns next).1 in
    record {
      grows = grows_both b next last first.grows rest.grows;
      wide = omega (arith, rest.wide);
      within = each_more (BitIn (count_of last)) (pattern_bit places b).0 (pattern_bits signal patterns next).0 (bit_later (count_of next) (count_of last) (no_fewer next last [] rest.grows) (pattern_bit places b).0 first.within) rest.within;
    }

-- the join of several bits
gives_joined : (b : Building) (bits : List SigBit) → 0 < length bits → length bits ≤ 4096 → SigIn (count_of b) bits → GivesBit b (joined_bits bits b).0 (joined_bits bits b).1
gives_joined b [] some few h = absurd (omega (arith, some))
gives_joined b (s ∷ []) some few h = record { grows = grows_none b; within = h s (inl refl) }
gives_joined b (s ∷ t ∷ bits) some few h =
    let all : List SigBit = s ∷ t ∷ bits in
    let params = integer_param (codes "\\A_SIGNED") 0 ∷ integer_param (codes "\\A_WIDTH") (length all) ∷ integer_param (codes "\\Y_WIDTH") 1 ∷ [] in
    let pins = pin_of (codes "\\A") all ∷ [] in
    let there = driver_there b (Fold Or) (codes "$reduce_or") params pins 1 in
    let n : ℕ = count_of (joined_bits all b).1 in
    record {
      grows = grows_driver b (Fold Or) (codes "$reduce_or") params pins 1 (or_whole n (made_name b.next) (count_of b) there all some few (sig_later (count_of b) n (omega (arith, there)) all h)) refl;
      within = there;
    }

-- a multiplexer
gives_mux : (b : Building) (x y : List SigBit) (s : SigBit) → length y ≡ length x → 0 < length x → length x ≤ 4096 → SigIn (count_of b) x → SigIn (count_of b) y → BitIn (count_of b) s → GivesBits b (length x) (mux_cell x y s b).0 (mux_cell x y s b).1
gives_mux b x y s long some few h k j =
    let params = integer_param (codes "\\WIDTH") (length x) ∷ [] in
    let pins = pin_of (codes "\\A") x ∷ pin_of (codes "\\B") y ∷ pin_of (codes "\\S") (s ∷ []) ∷ [] in
    let there = driver_there b Mux (codes "$mux") params pins (length x) in
    let n : ℕ = count_of (mux_cell x y s b).1 in
    let more : count_of b ≤ n = omega (arith, there) in
    record {
      grows = grows_driver b Mux (codes "$mux") params pins (length x) (mux_whole n (made_name b.next) (count_of b) there x y s long some few (sig_later (count_of b) n more x h) (sig_later (count_of b) n more y k) (bit_later (count_of b) n more s j)) refl;
      wide = whole_length (count_of b) (length x);
      within = whole_within n (count_of b) (length x) there;
    }

-- each match that is made is a bit of the module
abbrev pub AreMade : Trees → Type 0
AreMade t = Each (λ (k : Made). BitIn (count_of t.building) k.bit) t.made

-- a signal that is given, with what was built and the matches that are made
pub record Gives (width : ℕ) (old : Trees) (r : List SigBit × Trees) : Type 0 where
  pub grows : GrowsBy old.building r.1.building []
  pub wide : length r.0 ≡ width
  pub within : SigIn (count_of r.1.building) r.0
  pub made : AreMade r.1

-- the match of a case
record GivesMatch (old : Trees) (r : SigBit × Trees) : Type 0 where
  grows : GrowsBy old.building r.1.building []
  within : BitIn (count_of r.1.building) r.0
  made : AreMade r.1

match_there : (n : ℕ) (made : List Made) → Each (λ (k : Made). BitIn n k.bit) made → (at : List ℕ) → OptionIn n (made_match made at)
match_there n [] h at = tt
match_there n (k ∷ made) h at = by (same_case k.case_at at) (match_there n made (λ x i. h x (inr i)) at)
  where
    by : (t : Bool) → OptionIn n (made_match made at) → OptionIn n (if t then Some k.bit else made_match made at)
    by true later = h k (inl refl)
    by false later = later

gives_match : (at : List ℕ) (signal : List SigBit) (patterns : List (List SigBit)) (t : Trees) → 0 < length patterns → length patterns ≤ 4096 → length signal ≤ 4096 → SigIn (count_of t.building) signal → Each (SigIn (count_of t.building)) patterns → AreMade t → GivesMatch t (match_bit at signal patterns t)
gives_match at signal patterns t some few narrow h k made =
    by (made_match t.made at) (match_there (count_of t.building) t.made made at)
  where
    by : (o : Option SigBit) → OptionIn (count_of t.building) o → GivesMatch t (option_map_or (λ s. (s, t)) o (let bits = pattern_bits signal patterns t.building in let joined = joined_bits bits.0 bits.1 in (joined.0, record { building = joined.1; made = t.made ++ record { case_at = at; bit = joined.0 } ∷ [] })))
    by (Some s) i = record { grows = grows_none t.building; within = i; made = made }
    by None i =
        let first = gives_patterns t.building signal patterns narrow h k in
        let bits = pattern_bits signal patterns t.building in
        let second = gives_joined bits.1 bits.0 (omega (arith, first.wide, some)) (omega (arith, first.wide, few)) first.within in
        let joined = joined_bits bits.0 bits.1 in
        let all = grows_both t.building bits.1 joined.1 first.grows second.grows in
        record {
          grows = all;
          within = second.within;
          made = each_both (λ (k : Made). BitIn (count_of joined.1) k.bit) t.made _ (λ k i. bit_later (count_of t.building) (count_of joined.1) (no_fewer t.building joined.1 [] all) k.bit (made k i)) (each_more (λ (k : Made). BitIn (count_of joined.1) k.bit) (record { case_at = at; bit = joined.0 }) [] second.within (each_none (λ (k : Made). BitIn (count_of joined.1) k.bit)));
        }

-- matches that are made still are
pub made_later : (old new : Trees) → GrowsBy old.building new.building [] → new.made ≡ old.made → AreMade old → AreMade new
made_later old new grows same made k i =
    bit_later (count_of old.building) (count_of new.building) (no_fewer old.building new.building [] grows) k.bit (made k (subst (In k) same i))

some_patterns : (signal : List SigBit) (patterns : List (List SigBit)) → is_default signal patterns ≡ false → 0 < length patterns
some_patterns signal [] e = absurd (cc)
some_patterns signal (p ∷ patterns) e = omega arith

-- a case over what stands for the cases behind it
pub gives_case : (width : ℕ) → 0 < width → width ≤ 4096 → (at : List ℕ) (signal : List SigBit) (patterns : List (List SigBit)) (body acc : List SigBit) (t : Trees) → length patterns ≤ 4096 → length signal ≤ 4096 → SigIn (count_of t.building) signal → Each (SigIn (count_of t.building)) patterns → length body ≡ width → SigIn (count_of t.building) body → length acc ≡ width → SigIn (count_of t.building) acc → AreMade t → Gives width t (with_case at signal patterns body acc t)
gives_case width some few at signal patterns body acc t many narrow h k lb ib la ia made =
    by (is_default signal patterns) refl (same_signal body acc)
  where
    by : (d : Bool) → is_default signal patterns ≡ d → (e : Bool) → Gives width t (if d then (body, t) else if e then (acc, t) else let m = match_bit at signal patterns t in let mux = mux_cell acc body m.0 m.1.building in (mux.0, record { building = mux.1; made = m.1.made }))
    by true f e = record { grows = grows_none t.building; wide = lb; within = ib; made = made }
    by false f true = record { grows = grows_none t.building; wide = la; within = ia; made = made }
    by false f false =
        let m = match_bit at signal patterns t in
        let first = gives_match at signal patterns t (some_patterns signal patterns f) many narrow h k made in
        let more = no_fewer t.building m.1.building [] first.grows in
        let n : ℕ = count_of t.building in
        let l : ℕ = count_of m.1.building in
        let second = gives_mux m.1.building acc body m.0 (lb ∙ sym la) (omega (arith, la, some)) (omega (arith, la, few)) (sig_later n l more acc ia) (sig_later n l more body ib) first.within in
        let mux = mux_cell acc body m.0 m.1.building in
        record {
          grows = grows_both t.building m.1.building mux.1 first.grows second.grows;
          wide = second.wide ∙ la;
          within = second.within;
          made = made_later m.1 (record { building = mux.1; made = m.1.made }) second.grows refl first.made;
        }

-- what the last assign of a run gives it
pub last_in : (n : ℕ) (js : List Join) (b : WireBit) → Each (JoinIn n) js → OptionIn n (last_source js b)
last_in n [] b h = tt
last_in n (j ∷ js) b h = by (last_source js b) (same_bit j.bit b) (last_in n js b (λ x i. h x (inr i)))
  where
    by : (o : Option SigBit) (t : Bool) → OptionIn n o → OptionIn n (option_or o (if t then Some j.source else None))
    by (Some s) t i = i
    by None true i = (h j (inl refl)).source
    by None false i = tt

pub value_wide : (assigns : List Link) (run : List WireBit) (prior : List SigBit) → length prior ≡ length run → length (run_value assigns run prior) ≡ length run
value_wide assigns [] prior e = refl
value_wide assigns (b ∷ run) [] e = absurd (omega (arith, e))
value_wide assigns (b ∷ run) (s ∷ prior) e = omega (arith, value_wide assigns run prior (omega (arith, e)))

pub value_within : (n : ℕ) (assigns : List Link) → Each (LinkIn n) assigns → (run : List WireBit) (prior : List SigBit) → SigIn n prior → SigIn n (run_value assigns run prior)
value_within n assigns h [] prior k = each_none (BitIn n)
value_within n assigns h (b ∷ run) [] k = each_none (BitIn n)
value_within n assigns h (b ∷ run) (s ∷ prior) k =
    each_more (BitIn n) _ (run_value assigns run prior) (by (assigned assigns b) (last_in n (all_joins assigns) b (all_joins_in n assigns h))) (value_within n assigns h run prior (λ x i. k x (inr i)))
  where
    by : (o : Option SigBit) → OptionIn n o → BitIn n (option_map_or (λ t. t) o s)
    by (Some t) i = i
    by None i = k s (inl refl)

-- two steps in turn
pub gives_both : (width : ℕ) (a b : Trees) (r : List SigBit × Trees) → GrowsBy a.building b.building [] → Gives width b r → Gives width a r
gives_both width a b r g h = record {
  grows = grows_both a.building b.building r.1.building g h.grows;
  wide = h.wide;
  within = h.within;
  made = h.made;
}

-- one or the other
either : (width : ℕ) (old : Trees) (x y : List SigBit × Trees) (t : Bool) → Gives width old x → Gives width old y → Gives width old (if t then x else y)
either width old x y true g h = g
either width old x y false g h = h

narrow_of : {A : Type 0} (items : List A) → passes_limit items ≡ false → length items ≤ 4096
narrow_of items e = ltb-false 4096 (length items) e

-- the decisions of a process in a module that had so many wires, for a run
module _ (n : ℕ) (run : List WireBit) (some : 0 < length run) (few : length run ≤ 4096) where
  link_later : (many : ℕ) → n ≤ many → (l : Link) → LinkIn n l → LinkIn many l
  link_later many more l h = (sig_later n many more l.left h.0, sig_later n many more l.right h.1)

  mutual
    pub gives_switches : (above : List ℕ) (number : ℕ) (switches : Switches) (prior : List SigBit) (t : Trees) → SwitchesIn n switches → switches_pass switches ≡ false → n ≤ count_of t.building → length prior ≡ length run → SigIn (count_of t.building) prior → AreMade t → Gives (length run) t (switches_value run above number switches prior t)
    gives_switches above number NoSwitch prior t h e more l i made = record { grows = grows_none t.building; wide = l; within = i; made = made }
    gives_switches above number (OneSwitch signal attributes cases rest) prior t h e more l i made =
        let k = or_parts (passes_limit signal || cases_pass cases) (switches_pass rest) e in
        let j = or_parts (passes_limit signal) (cases_pass cases) k.0 in
        let r : List SigBit × Trees = if assigns_run (cases_assigns cases) run then cases_value run (above ++ number ∷ []) 0 signal cases prior t else (prior, t) in
        let inner : Gives (length run) t (cases_value run (above ++ number ∷ []) 0 signal cases prior t) = gives_cases (above ++ number ∷ []) 0 signal cases prior t (narrow_of signal j.0) h.0 h.1.0 j.1 more l i made in
        let outer : Gives (length run) t (prior, t) = record { grows = grows_none t.building; wide = l; within = i; made = made } in
        let first : Gives (length run) t r = either (length run) t (cases_value run (above ++ number ∷ []) 0 signal cases prior t) (prior, t) (assigns_run (cases_assigns cases) run) inner outer in
        let grown = no_fewer t.building r.1.building [] first.grows in
        gives_both (length run) t r.1 (switches_value run above (number + 1) rest r.0 r.1) first.grows
        (gives_switches above (number + 1) rest r.0 r.1 h.1.1 k.1 (omega (arith, more, grown)) first.wide first.within first.made)

    pub gives_cases : (above : List ℕ) (number : ℕ) (signal : List SigBit) (cases : Cases) (prior : List SigBit) (t : Trees) → length signal ≤ 4096 → SigIn n signal → CasesIn n cases → cases_pass cases ≡ false → n ≤ count_of t.building → length prior ≡ length run → SigIn (count_of t.building) prior → AreMade t → Gives (length run) t (cases_value run above number signal cases prior t)
    gives_cases above number signal NoCase prior t narrow s h e more l i made = record { grows = grows_none t.building; wide = l; within = i; made = made }
    gives_cases above number signal (OneCase patterns assigns attributes switches rest) prior t narrow s h e more l i made =
        let k = or_parts (passes_limit patterns || switches_pass switches) (cases_pass rest) e in
        let j = or_parts (passes_limit patterns) (switches_pass switches) k.0 in
        let acc = cases_value run above (number + 1) signal rest prior t in
        let first : Gives (length run) t acc = gives_cases above (number + 1) signal rest prior t narrow s h.1.1.1 k.1 more l i made in
        let one = no_fewer t.building acc.1.building [] first.grows in
        let start : List SigBit = run_value assigns run prior in
        let begun : SigIn (count_of acc.1.building) start = value_within (count_of acc.1.building) assigns (λ x y. link_later (count_of acc.1.building) (omega (arith, more, one)) x (h.1.0 x y)) run prior (sig_later (count_of t.building) (count_of acc.1.building) one prior i) in
        let body = switches_value run (above ++ number ∷ []) 0 switches start acc.1 in
        let second : Gives (length run) acc.1 body = gives_switches (above ++ number ∷ []) 0 switches start acc.1 h.1.1.0 j.1 (omega (arith, more, one)) (value_wide assigns run prior l) begun first.made in
        let two = no_fewer acc.1.building body.1.building [] second.grows in
        let many : n ≤ count_of body.1.building = omega (arith, more, one, two) in
        gives_both (length run) t body.1 (with_case (above ++ number ∷ []) signal patterns body.0 acc.0 body.1)
        (grows_both t.building acc.1.building body.1.building first.grows second.grows)
        (gives_case (length run) some few (above ++ number ∷ []) signal patterns body.0 acc.0 body.1 (narrow_of patterns j.0) narrow
        (sig_later n (count_of body.1.building) many signal s) (λ q y. sig_later n (count_of body.1.building) many q (h.0 q y))
        second.wide second.within first.wide (sig_later (count_of acc.1.building) (count_of body.1.building) two acc.0 first.within) second.made)
