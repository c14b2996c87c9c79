-- A source starts with the constant at the end of its way along the assigns where each switch takes its first case.
use Rattle.std.proofs.Common.{◌≡◌, ℕ, zero, suc, ◌≤◌, Bool, true, false, cond, ◌||◌, List, [], ◌∷◌, ◌++◌, length, inl, inr, Option, Some, None, unwrap_or, append-nil, length-append, append_assoc, refl, sym, ◌∙◌, ap, subst, arith}
use Rattle.std.specs.Prelude.{◌⊎◌, flat_map, if◌then◌else◌, map, reverse}
use Rattle.std.specs.Option.{option_map_or, option_or}
use Rattle.std.proofs.lemmas.Bool.{or_parts}
use Rattle.std.proofs.lemmas.List.{reverse-append}
use Rattle.std.proofs.lemmas.List.Folds.{list_any-append}
use Rattle.rtl_sig.specs.declared.sig.SigBit.{SigBit}
use Rattle.rtl_sig.specs.declared.sig.SigBit.TheVariants.{Fixed, Wire as OnWire}
use Rattle.rtl_sig.specs.declared.sig.WireBit.{WireBit}
use Rattle.rtl_bits.specs.declared.bit.Bit.TheVariants.{X}
use Rattle.rtl_ir.specs.declared.module.Link.{Link}
use Rattle.rtl_ir.specs.Assigns.{assigned, case_assigns, cases_assigns, each_once, last_source, left_bits, switches_assigns}
use Rattle.rtl_ir.specs.Decisions.{expanded_within}
use Rattle.rtl_ir.specs.Follow.{all_joins, end_within, follow, follow_joins, joins, source_at}
use Rattle.rtl_ir.specs.declared.follow.Join.{Join}
use Rattle.rtl_ir.specs.Signals.{has_bit, same_bit, wire_bits}
use Rattle.rtl_ir.specs.Tree.{Switches, NoSwitch, OneSwitch, Cases, NoCase, OneCase, CaseView}
use Rattle.net_index.proofs.DriverMarks.{once_same}
use Rattle.net_index.proofs.IndexEnds.{ends_all, ends_here, ends_later, ends_not, ends_on}
use Rattle.net_index.proofs.IndexTables.{same_bit-refl, same_bit-true}
use Rattle.proc_tree.specs.Leaves.{case_first, cases_first, constant_or_x, first_start, switches_first}
use Rattle.proc_tree.proofs.FirstLeaf.{assigned_both, first_fixed, first_is, first_of, first_of_both, first_step}

-- of places in turned order the first is the last
pub turned : (js : List Join) (b : WireBit) → source_at (reverse js) b ≡ last_source js b
turned [] b = refl
turned (j ∷ js) b =
    ap (λ ks. source_at ks b) (reverse-append (j ∷ []) js)
    ∙ first_of_both (reverse js) (j ∷ []) b
    ∙ ap (λ o. option_or o (source_at (j ∷ []) b)) (turned js b)

-- a bit that stands on no left side is given nothing
same_turned : (b c : WireBit) → same_bit b c ≡ false → same_bit c b ≡ false
same_turned b c e = by (same_bit c b) refl
  where
    by : (t : Bool) → same_bit c b ≡ t → t ≡ false
    by false f = refl
    by true f = absurd (let g : same_bit b c ≡ true = ap (λ x. same_bit b x) (same_bit-true c b f) ∙ same_bit-refl b in cc)

or_none : (o : Option SigBit) (s : SigBit) (t : Bool) → o ≡ None → t ≡ false → option_or o (if t then Some s else None) ≡ None
or_none o s t e f = λ i. option_or (e i) (if f i then Some s else None)

none_joined : (ls rs : List SigBit) (b : WireBit) → has_bit (wire_bits ls) b ≡ false → last_source (joins ls rs) b ≡ None
none_joined [] rs b e = refl
none_joined (l ∷ ls) [] b e = refl
none_joined (Fixed c ∷ ls) (r ∷ rs) b e = none_joined ls rs b e
none_joined (OnWire c ∷ ls) (r ∷ rs) b e =
    let parts = or_parts (same_bit b c) (has_bit (wire_bits ls) b) e in
    or_none (last_source (joins ls rs) b) r (same_bit c b) (none_joined ls rs b parts.1) (same_turned b c parts.0)

neither : (xs ys : List WireBit) (b : WireBit) → has_bit (xs ++ ys) b ≡ false → (has_bit xs b ≡ false) × (has_bit ys b ≡ false)
neither xs ys b e = or_parts (has_bit xs b) (has_bit ys b) (sym (list_any-append (same_bit b) xs ys) ∙ e)

both_none : (o e : Option SigBit) → o ≡ None → e ≡ None → option_or o e ≡ None
both_none o e f g = λ i. option_or (f i) (g i)

none_assigned : (lines : List Link) (b : WireBit) → has_bit (left_bits lines) b ≡ false → assigned lines b ≡ None
none_assigned [] b e = refl
none_assigned (l ∷ lines) b e =
    let parts = neither (wire_bits l.left) (left_bits lines) b e in
    assigned_both (l ∷ []) lines b
    ∙ both_none (assigned lines b) (assigned (l ∷ []) b) (none_assigned lines b parts.1) (alone l parts.0)
  where
    alone : (l : Link) → has_bit (wire_bits l.left) b ≡ false → assigned (l ∷ []) b ≡ None
    alone l f = ap (λ js. last_source js b) (nothing (joins l.left l.right)) ∙ none_joined l.left l.right b f
      where
        nothing : (js : List Join) → js ++ [] ≡ js
        nothing [] = refl
        nothing (j ∷ js) = ap (λ z. j ∷ z) (nothing js)

left_both : (xs ys : List Link) → left_bits (xs ++ ys) ≡ left_bits xs ++ left_bits ys
left_both [] ys = refl
left_both (l ∷ xs) ys = ap (λ z. wire_bits l.left ++ z) (left_both xs ys) ∙ sym (append_assoc (wire_bits l.left) (left_bits xs) (left_bits ys))

neither_line : (xs ys : List Link) (b : WireBit) → has_bit (left_bits (xs ++ ys)) b ≡ false → (has_bit (left_bits xs) b ≡ false) × (has_bit (left_bits ys) b ≡ false)
neither_line xs ys b e = neither (left_bits xs) (left_bits ys) b (ap (λ z. has_bit z b) (sym (left_both xs ys)) ∙ e)

both_assigned : (xs ys : List Link) (b : WireBit) → assigned xs b ≡ None → assigned ys b ≡ None → assigned (xs ++ ys) b ≡ None
both_assigned xs ys b e f = assigned_both xs ys b ∙ both_none (assigned ys b) (assigned xs b) f e

-- the assigns where each switch takes its first case are assigns of the tree
mutual
  none_first : (switches : Switches) (b : WireBit) → has_bit (left_bits (switches_assigns switches)) b ≡ false → assigned (switches_first switches) b ≡ None
  none_first NoSwitch b e = refl
  none_first (OneSwitch signal attributes cases rest) b e =
      let parts = neither_line (cases_assigns cases) (switches_assigns rest) b e in
      both_assigned (cases_first cases) (switches_first rest) b (none_case cases b parts.0) (none_first rest b parts.1)

  none_case : (cases : Cases) (b : WireBit) → has_bit (left_bits (cases_assigns cases)) b ≡ false → assigned (cases_first cases) b ≡ None
  none_case NoCase b e = refl
  none_case (OneCase patterns assigns attributes switches rest) b e =
      let outer = neither_line (assigns ++ switches_assigns switches) (cases_assigns rest) b e in
      let inner = neither_line assigns (switches_assigns switches) b outer.0 in
      both_assigned assigns (switches_first switches) b (none_assigned assigns b inner.0) (none_first switches b inner.1)

none_root : (root : CaseView) (b : WireBit) → has_bit (left_bits (case_assigns root)) b ≡ false → assigned (case_first root) b ≡ None
none_root root b e =
    let parts = neither_line root.assigns (switches_assigns root.switches) b e in
    both_assigned root.assigns (switches_first root.switches) b (none_assigned root.assigns b parts.0) (none_first root.switches b parts.1)

-- the places of bits, of each the first one
abbrev once_at : List Join → WireBit → List Join
once_at js b = option_map_or (λ s. record { bit = b; source = s } ∷ []) (source_at js b) []

abbrev each_at : List Join → List WireBit → List Join
each_at js bits = flat_map (once_at js) bits

at_own : (js : List Join) (b : WireBit) → source_at (once_at js b) b ≡ source_at js b
at_own js b = by (source_at js b)
  where
    by : (o : Option SigBit) → source_at (option_map_or (λ s. record { bit = b; source = s } ∷ []) o []) b ≡ o
    by None = refl
    by (Some s) = ap (λ t. if t then Some s else None) (same_bit-refl b)

at_other : (js : List Join) (b c : WireBit) → same_bit c b ≡ false → source_at (once_at js c) b ≡ None
at_other js b c e = by (source_at js c)
  where
    by : (o : Option SigBit) → source_at (option_map_or (λ s. record { bit = c; source = s } ∷ []) o []) b ≡ None
    by None = refl
    by (Some s) = ap (λ t. if t then Some s else None) e

either : (o e w : Option SigBit) → o ≡ None → e ≡ w → option_or o e ≡ w
either o e w f g = ap (λ x. option_or x e) f ∙ g

-- a bit among these has its place, and others have none
at_each : (js : List Join) (bits : List WireBit) (b : WireBit) → (source_at (each_at js bits) b ≡ None) ⊎ (source_at (each_at js bits) b ≡ source_at js b)
at_each js [] b = inl refl
at_each js (c ∷ bits) b = by (same_bit c b) refl (at_each js bits b)
  where
    whole : source_at (each_at js (c ∷ bits)) b ≡ option_or (source_at (once_at js c) b) (source_at (each_at js bits) b)
    whole = first_of_both (once_at js c) (each_at js bits) b

    own : (c : WireBit) → c ≡ b → source_at (once_at js c) b ≡ source_at js b
    own c e = subst (λ x. source_at (once_at js x) b ≡ source_at js b) (sym e) (at_own js b)

    or_else : (o e w : Option SigBit) → o ≡ w → (e ≡ None) ⊎ (e ≡ w) → option_or o e ≡ w
    or_else (Some x) e w f g = f
    or_else None e w f (inl g) = g ∙ f
    or_else None e w f (inr g) = g

    by : (t : Bool) → same_bit c b ≡ t → (source_at (each_at js bits) b ≡ None) ⊎ (source_at (each_at js bits) b ≡ source_at js b)
        → (source_at (each_at js (c ∷ bits)) b ≡ None) ⊎ (source_at (each_at js (c ∷ bits)) b ≡ source_at js b)
    by true e h = inr (whole ∙ or_else (source_at (once_at js c) b) (source_at (each_at js bits) b) (source_at js b) (own c (same_bit-true c b e)) h)
    by false e (inl g) = inl (whole ∙ either (source_at (once_at js c) b) (source_at (each_at js bits) b) None (at_other js b c e) g)
    by false e (inr g) = inr (whole ∙ either (source_at (once_at js c) b) (source_at (each_at js bits) b) (source_at js b) (at_other js b c e) g)

at_named : (js : List Join) (bits : List WireBit) (b : WireBit) → has_bit bits b ≡ true → source_at (each_at js bits) b ≡ source_at js b
at_named js [] b e = absurd (cc)
at_named js (c ∷ bits) b e = first_of_both (once_at js c) (each_at js bits) b ∙ by (same_bit c b) refl (at_each js bits b) (at_named js bits b)
  where
    own : (c : WireBit) → c ≡ b → source_at (once_at js c) b ≡ source_at js b
    own c e = subst (λ x. source_at (once_at js x) b ≡ source_at js b) (sym e) (at_own js b)

    or_else : (o e w : Option SigBit) → o ≡ w → (e ≡ None) ⊎ (e ≡ w) → option_or o e ≡ w
    or_else (Some x) e w f g = f
    or_else None e w f (inl g) = g ∙ f
    or_else None e w f (inr g) = g

    by : (t : Bool) → same_bit c b ≡ t → (source_at (each_at js bits) b ≡ None) ⊎ (source_at (each_at js bits) b ≡ source_at js b)
        → (has_bit bits b ≡ true → source_at (each_at js bits) b ≡ source_at js b)
        → option_or (source_at (once_at js c) b) (source_at (each_at js bits) b) ≡ source_at js b
    by true f h g = or_else (source_at (once_at js c) b) (source_at (each_at js bits) b) (source_at js b) (own c (same_bit-true c b f)) h
    by false f h g =
        either (source_at (once_at js c) b) (source_at (each_at js bits) b) (source_at js b) (at_other js b c f)
        (g (ap (λ t. t || has_bit bits b) (sym (same_turned c b f)) ∙ e))

-- where each bit that has a place is among these, they have the same places
at_all : (js : List Join) (bits : List WireBit) → ((b : WireBit) → has_bit bits b ≡ false → source_at js b ≡ None) → (b : WireBit) → source_at (each_at js bits) b ≡ source_at js b
at_all js bits h b = by (has_bit bits b) refl
  where
    none : source_at js b ≡ None → (source_at (each_at js bits) b ≡ None) ⊎ (source_at (each_at js bits) b ≡ source_at js b) → source_at (each_at js bits) b ≡ source_at js b
    none e (inl g) = g ∙ sym e
    none e (inr g) = g

    by : (t : Bool) → has_bit bits b ≡ t → source_at (each_at js bits) b ≡ source_at js b
    by true e = at_named js bits b e
    by false e = none (h b e) (at_each js bits b)

few_each : (js : List Join) (bits : List WireBit) → length (each_at js bits) ≤ length bits
few_each js [] = omega arith
few_each js (c ∷ bits) =
    let rest : length (each_at js bits) ≤ length bits = few_each js bits in
    let one : length (once_at js c) ≤ 1 = by (source_at js c) in
    omega (arith, length-append (once_at js c) (each_at js bits))
  where
    by : (o : Option SigBit) → length (option_map_or (λ s. record { bit = c; source = s } ∷ []) o (let none : List Join = [] in none)) ≤ 1
    by None = omega arith
    by (Some s) = omega arith

-- ways along the same places are the same
same_ends : (js ks : List Join) → ((b : WireBit) → source_at js b ≡ source_at ks b) → (n : ℕ) (s : SigBit) → end_within js n s ≡ end_within ks n s
same_ends js ks h zero (Fixed c) = refl
same_ends js ks h zero (OnWire b) = ap (λ o. option_map_or (λ r. None) o (Some (OnWire b))) (h b)
same_ends js ks h (suc n) (Fixed c) = refl
same_ends js ks h (suc n) (OnWire b) =
    ap (λ o. option_map_or (end_within js n) o (Some (OnWire b))) (h b) ∙ by (source_at ks b) (same_ends js ks h n)
  where
    by : (o : Option SigBit) → ((r : SigBit) → end_within js n r ≡ end_within ks n r) → option_map_or (end_within js n) o (Some (OnWire b)) ≡ option_map_or (end_within ks n) o (Some (OnWire b))
    by None g = refl
    by (Some r) g = g r

-- an end that any number of steps reaches is reached by as many as there are bits
pub ends_by : (js : List Join) (bits : List WireBit) → ((b : WireBit) → has_bit bits b ≡ false → source_at js b ≡ None) → (n : ℕ) (s e : SigBit) → end_within js n s ≡ Some e → end_within js (length bits) s ≡ Some e
ends_by js bits h n s e is =
    let ks : List Join = each_at js bits in
    let same : (k : ℕ) (x : SigBit) → end_within ks k x ≡ end_within js k x = same_ends ks js (at_all js bits h) in
    let there : end_within ks (length ks) s ≡ Some e = ends_all ks n s e (same n s ∙ is) in
    sym (same (length bits) s) ∙ ends_later ks (length ks) (length bits) s e (few_each js bits) there

-- the way of a root case
module _ (root : CaseView) where
  abbrev way : List Join
  way = reverse (all_joins (case_first root))

  abbrev own : List WireBit
  own = each_once (left_bits (case_assigns root))

  way_at : (b : WireBit) → source_at way b ≡ assigned (case_first root) b
  way_at b = turned (all_joins (case_first root)) b

  way_none : (b : WireBit) → has_bit own b ≡ false → source_at way b ≡ None
  way_none b e = way_at b ∙ none_root root b (sym (once_same (left_bits (case_assigns root)) b) ∙ e)

  way_own : (b : WireBit) (r : SigBit) → source_at way b ≡ Some r → has_bit own b ≡ true
  way_own b r e = by (has_bit own b) refl
    where
      by : (t : Bool) → has_bit own b ≡ t → t ≡ true
      by true f = refl
      by false f = absurd (let g : source_at way b ≡ None = way_none b f in cc)

  step_on : (n : ℕ) (b : WireBit) (r : SigBit) → source_at way b ≡ Some r → first_of (expanded_within root own (suc n) (OnWire b)) ≡ first_of (expanded_within root own n r)
  step_on n b r e =
      first_step root own n b
      ∙ (λ i. cond (way_own b r e i) (first_of (expanded_within root own n (unwrap_or ((sym (way_at b) ∙ e) i) (Fixed X)))) (OnWire b))

  step_out : (n : ℕ) (b : WireBit) → source_at way b ≡ None → constant_or_x (first_of (expanded_within root own (suc n) (OnWire b))) ≡ X
  step_out n b e =
      ap constant_or_x (first_step root own n b)
      ∙ (λ i. constant_or_x (cond (has_bit own b) (first_of (expanded_within root own n (unwrap_or ((sym (way_at b) ∙ e) i) (Fixed X)))) (OnWire b)))
      ∙ ap (λ s. constant_or_x (cond (has_bit own b) s (OnWire b))) (first_fixed root own n X)
      ∙ by (has_bit own b)
    where
      by : (t : Bool) → constant_or_x (cond t (Fixed X) (OnWire b)) ≡ X
      by true = refl
      by false = refl

  -- where the way ends
  ends_at : (n : ℕ) (s e : SigBit) → end_within way n s ≡ Some e → constant_or_x (first_of (expanded_within root own n s)) ≡ constant_or_x e
  ends_at zero (Fixed c) e h = let f : Fixed c ≡ e = cc in ap constant_or_x f
  ends_at zero (OnWire b) e h = by (source_at way b) refl
    where
      by : (o : Option SigBit) → source_at way b ≡ o → constant_or_x (OnWire b) ≡ constant_or_x e
      by None eq = let f : OnWire b ≡ e = (let g : end_within way 0 (OnWire b) ≡ Some (OnWire b) = ends_here way 0 (OnWire b) eq in cc) in ap constant_or_x f
      by (Some r) eq = absurd (let f : end_within way 0 (OnWire b) ≡ None = ends_not way (OnWire b) r eq in cc)
  ends_at (suc n) (Fixed c) e h = let f : Fixed c ≡ e = cc in ap constant_or_x f
  ends_at (suc n) (OnWire b) e h = by (λ r. ends_at n r e) (source_at way b) refl
    where
      by : ((r : SigBit) → end_within way n r ≡ Some e → constant_or_x (first_of (expanded_within root own n r)) ≡ constant_or_x e) → (o : Option SigBit) → source_at way b ≡ o
          → constant_or_x (first_of (expanded_within root own (suc n) (OnWire b))) ≡ constant_or_x e
      by on None eq =
          let f : OnWire b ≡ e = (let g : end_within way (suc n) (OnWire b) ≡ Some (OnWire b) = ends_here way (suc n) (OnWire b) eq in cc) in
          step_out n b eq ∙ ap constant_or_x f
      by on (Some r) eq = ap constant_or_x (step_on n b r eq) ∙ on r (sym (ends_on way n (OnWire b) r eq) ∙ h)

  -- where it does not
  runs_on : (n : ℕ) (s : SigBit) → ((k : ℕ) → end_within way k s ≡ None) → constant_or_x (first_of (expanded_within root own n s)) ≡ X
  runs_on n (Fixed c) h = absurd (let f : end_within way 0 (Fixed c) ≡ None = h 0 in cc)
  runs_on zero (OnWire b) h = refl
  runs_on (suc n) (OnWire b) h = by (λ r. runs_on n r) (source_at way b) refl
    where
      by : ((r : SigBit) → ((k : ℕ) → end_within way k r ≡ None) → constant_or_x (first_of (expanded_within root own n r)) ≡ X) → (o : Option SigBit) → source_at way b ≡ o
          → constant_or_x (first_of (expanded_within root own (suc n) (OnWire b))) ≡ X
      by on None eq = step_out n b eq
      by on (Some r) eq = ap constant_or_x (step_on n b r eq) ∙ on r (λ k. sym (ends_on way k (OnWire b) r eq) ∙ h (suc k))

  never : (s : SigBit) → ((k : ℕ) → end_within way k s ≡ None) → constant_or_x s ≡ X
  never (Fixed c) h = absurd (let f : end_within way 0 (Fixed c) ≡ None = h 0 in cc)
  never (OnWire b) h = refl

  pub way_leads : (s : SigBit) → constant_or_x (follow_joins way s) ≡ first_start root s
  unfolding follow_joins
  way_leads s = by (end_within way (length own) s) refl ∙ sym (first_is (expanded_within root own (length own) s))
    where
      by : (o : Option SigBit) → end_within way (length own) s ≡ o → constant_or_x (unwrap_or (end_within way (length way) s) s) ≡ constant_or_x (first_of (expanded_within root own (length own) s))
      by (Some e) is = ap (λ o. constant_or_x (unwrap_or o s)) (ends_all way (length own) s e is) ∙ sym (ends_at (length own) s e is)
      by None is =
          ap (λ o. constant_or_x (unwrap_or o s)) (none (length way)) ∙ never s none ∙ sym (runs_on (length own) s none)
        where
          none : (k : ℕ) → end_within way k s ≡ None
          none k = at (end_within way k s) refl
            where
              at : (o : Option SigBit) → end_within way k s ≡ o → o ≡ None
              at None f = refl
              at (Some x) f = absurd (let g : end_within way (length own) s ≡ Some x = ends_by way own way_none k s x f in cc)

-- of a module whose connections are the way
pub follows_way : (root : CaseView) (links : List Link) → all_joins links ≡ reverse (all_joins (case_first root)) → (s : SigBit) → constant_or_x (follow links s) ≡ first_start root s
follows_way root links e s = ap (λ js. constant_or_x (follow_joins js s)) e ∙ way_leads root s

-- the places of a connection that has so many bits and sources
pair_up : (places : List Join) → joins (map (λ (p : Join). OnWire p.bit) places) (map (λ (p : Join). p.source) places) ≡ places
pair_up [] = refl
pair_up (p ∷ places) = ap (λ js. p ∷ js) (pair_up places)

pub one_line : (places : List Join) (left right : List SigBit) → left ≡ map (λ (p : Join). OnWire p.bit) (reverse places) → right ≡ map (λ (p : Join). p.source) (reverse places)
    → (links : List Link) → links ≡ record { left = left; right = right } ∷ [] → all_joins links ≡ reverse places
one_line places left right e f links is =
    ap all_joins is ∙ (λ i. joins (e i) (f i) ++ [])
    ∙ append-nil (joins (map (λ (p : Join). OnWire p.bit) (reverse places)) (map (λ (p : Join). p.source) (reverse places)))
    ∙ pair_up (reverse places)
