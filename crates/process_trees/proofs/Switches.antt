-- The cases of a switch are walked one after another, each behind what was there before the switch.
use Rattle.std.proofs.Common.{◌≡◌, ℕ, ◌+◌, ◌<◌, ◌≤◌, ◌||◌, ◌&&◌, not, Bool, true, false, List, [], ◌∷◌, ◌++◌, if◌then◌else◌, length, drop, get_or, filter, nat_eq, Option, Some, None, Vec, Global, append_assoc, append-nil, refl, sym, ap, subst, ◌∙◌}
use Rattle.std.proofs.lemmas.Bool.{eqb-true}
use Rattle.std.proofs.lemmas.List.{drop_all}
use Rattle.rtl_sig.specs.declared.sig.SigBit.{SigBit}
use Rattle.rtl_sig.specs.declared.sig.WireBit.{WireBit}
use Rattle.rtl_ir.specs.Tree.{CaseView, cases_of, OneCase}
use Rattle.process_trees.specs.declared.walk.Walk.{Walk}
use Rattle.process_trees.specs.Numbers.{AreNumbers, ByBit, number_in}
use Rattle.process_trees.specs.Reach.{Reach, either, if_kept, reach_case, reach_cases, untouched}
use Rattle.process_trees.specs.Walk.{AreSet, Gains, HasRoom, Walked, is_among, sources_at, unset_among, unset_at}
use Rattle.process_trees.proofs.Fronts.{front}

-- what the cases before a place may give a bit last, beside those from there on
pub record Before (items : List CaseView) (at : ℕ) (old new : Walk) (common : Option (Vec ℕ Global)) (b : WireBit) (k : ℕ) : Type 0 where
  pub reach : Reach
  pub all : either reach (reach_cases b (cases_of (drop at items))) ≡ reach_cases b (cases_of items)
  pub sources : sources_at new.sources.items k ≡ sources_at old.sources.items k ++ if_kept (unset_at old.unset.items k) reach.sources
  pub set : unset_among common old.unset.items k ≡ (unset_at old.unset.items k && not reach.keeps)

pub record CasesWalked (numbers : ByBit ℕ) (items : List CaseView) (at : ℕ) (old new : Walk) (common : Option (Vec ℕ Global)) : Type 0 where
  pub room : (count : ℕ) → HasRoom count old → HasRoom count new
  pub size : length new.unset.items ≡ length old.unset.items
  pub unset : (k : ℕ) → unset_at new.unset.items k ≡ unset_at old.unset.items k
  pub was : (k : ℕ) → unset_among common old.unset.items k ≡ true → unset_at old.unset.items k ≡ true
  pub before : (bits : List WireBit) → AreNumbers numbers bits → HasRoom (length bits) old → (b : WireBit) (k : ℕ) → number_in bits b ≡ Some k → Before items at old new common b k

and_true : (a : Bool) → a ≡ (a && true)
and_true true = refl
and_true false = refl

kept_none : (t : Bool) → if_kept t [] ≡ []
kept_none true = refl
kept_none false = refl

pub none_before : (numbers : ByBit ℕ) (items : List CaseView) (walk : Walk) → CasesWalked numbers items 0 walk walk None
none_before numbers items walk = record {
  room = λ count h. h;
  size = refl;
  unset = λ k. refl;
  was = λ k e. e;
  before = λ bits are h b k e. record {
    reach = record { sources = []; keeps = false };
    all = refl;
    sources = sym (append-nil (sources_at walk.sources.items k)) ∙ ap (λ xs. sources_at walk.sources.items k ++ xs) (sym (kept_none (unset_at walk.unset.items k)));
    set = and_true (unset_at walk.unset.items k);
  };
}

either_again : (x y z : Reach) → either (either x y) z ≡ either x (either y z)
either_again x y z = λ i. record { sources = append_assoc x.sources y.sources z.sources i; keeps = by x.keeps y.keeps z.keeps i }
  where
    by : (a b c : Bool) → ((a || b) || c) ≡ (a || (b || c))
    by true b c = refl
    by false b c = refl

either_none : (x : Reach) → either x untouched ≡ record { sources = x.sources; keeps = true }
either_none x = λ i. record { sources = append-nil x.sources i; keeps = by x.keeps i }
  where
    by : (a : Bool) → (a || true) ≡ true
    by true = refl
    by false = refl

kept_append : (t : Bool) (xs ys : List SigBit) → if_kept t xs ++ if_kept t ys ≡ if_kept t (xs ++ ys)
kept_append true xs ys = refl
kept_append false xs ys = refl

still : (u p r : Bool) → ((u && not p) && not (u && r)) ≡ (u && not (p || r))
still true true r = refl
still true false r = refl
still false p r = refl

-- which numbers of those before are among those that are left
pub among_filter : (p : ℕ → Bool) (xs : List ℕ) (k : ℕ) → is_among k (filter p xs) ≡ (is_among k xs && p k)
among_filter p [] k = refl
among_filter p (x ∷ xs) k = by (p x) refl (among_filter p xs k)
  where
    same : (t : Bool) → nat_eq k x ≡ t → p x ≡ false → (is_among k xs && p k) ≡ ((nat_eq k x || is_among k xs) && p k)
    same true e f =
        let off : p k ≡ false = ap p (eqb-true k x e) ∙ f in
        ap (λ u. is_among k xs && u) off ∙ none (is_among k xs) (nat_eq k x || is_among k xs) ∙ ap (λ u. (nat_eq k x || is_among k xs) && u) (sym off)
      where
        none : (a b : Bool) → (a && false) ≡ (b && false)
        none true true = refl
        none true false = refl
        none false true = refl
        none false false = refl
    same false e f = ap (λ u. (u || is_among k xs) && p k) (sym e)

    more : (t : Bool) → nat_eq k x ≡ t → p x ≡ true → (nat_eq k x || (is_among k xs && p k)) ≡ ((nat_eq k x || is_among k xs) && p k)
    more true e f =
        let on : p k ≡ true = ap p (eqb-true k x e) ∙ f in
        ap (λ u. u || (is_among k xs && p k)) e ∙ sym ((λ i. (e i || is_among k xs) && on i))
    more false e f = ap (λ u. u || (is_among k xs && p k)) e ∙ ap (λ u. (u || is_among k xs) && p k) (sym e)

    by : (t : Bool) → p x ≡ t → is_among k (filter p xs) ≡ (is_among k xs && p k) → is_among k (filter p (x ∷ xs)) ≡ ((nat_eq k x || is_among k xs) && p k)
    by true f ih =
        ap (λ t. is_among k (if t then x ∷ filter p xs else filter p xs)) f ∙ ap (λ u. nat_eq k x || u) ih ∙ more (nat_eq k x) refl f
    by false f ih =
        ap (λ t. is_among k (if t then x ∷ filter p xs else filter p xs)) f ∙ ih ∙ same (nat_eq k x) refl f

module _ (numbers : ByBit ℕ) (items : List CaseView) (at : ℕ) (x : CaseView) (h : at < length items) (is : x ≡ get_or items at x)
    (old mid behind : Walk) (common : Option (Vec ℕ Global)) (walked : Walked numbers (λ b. reach_case b x) mid behind) (so_far : CasesWalked numbers items at old mid common) where
  left : cases_of (drop at items) ≡ OneCase x.patterns x.assigns x.attributes x.switches (cases_of (drop (at + 1) items))
  left = ap cases_of (front items at x h is)

  -- what one case more finds
  more : (bits : List WireBit) → AreNumbers numbers bits → HasRoom (length bits) old → (b : WireBit) (k : ℕ) → number_in bits b ≡ Some k → (b' : Before items at old mid common b k)
      → sources_at behind.sources.items k ≡ sources_at old.sources.items k ++ if_kept (unset_at old.unset.items k) (b'.reach.sources ++ (reach_case b x).sources)
  more bits are room b k e b' =
      let g = walked.gains bits are (so_far.room (length bits) room) b k e in
      g.sources
      ∙ (λ i. b'.sources i ++ if_kept (so_far.unset k i) (reach_case b x).sources)
      ∙ append_assoc (sources_at old.sources.items k) (if_kept (unset_at old.unset.items k) b'.reach.sources) (if_kept (unset_at old.unset.items k) (reach_case b x).sources)
      ∙ ap (λ xs. sources_at old.sources.items k ++ xs) (kept_append (unset_at old.unset.items k) b'.reach.sources (reach_case b x).sources)

  -- which bits all cases set up to this one
  both_set : (bits : List WireBit) → AreNumbers numbers bits → HasRoom (length bits) old → (b : WireBit) (k : ℕ) → number_in bits b ≡ Some k → (b' : Before items at old mid common b k)
      → (all : List ℕ) → is_among k all ≡ (unset_among common mid.unset.items k && not (unset_at behind.unset.items k))
      → is_among k all ≡ (unset_at old.unset.items k && not (b'.reach.keeps || (reach_case b x).keeps))
  both_set bits are room b k e b' all by_all =
      let g = walked.gains bits are (so_far.room (length bits) room) b k e in
      by_all
      ∙ (λ i. among_same common k i && not (g.unset i))
      ∙ (λ i. b'.set i && not (so_far.unset k i && (reach_case b x).keeps))
      ∙ still (unset_at old.unset.items k) b'.reach.keeps (reach_case b x).keeps
    where
      among_same : (o : Option (Vec ℕ Global)) (k : ℕ) → unset_among o mid.unset.items k ≡ unset_among o old.unset.items k
      among_same None k = so_far.unset k
      among_same (Some v) k = refl

  among_was : (all : List ℕ) (k : ℕ) → is_among k all ≡ (unset_among common mid.unset.items k && not (unset_at behind.unset.items k)) → is_among k all ≡ true → unset_at old.unset.items k ≡ true
  among_was all k by_all e = by common so_far.was (sym by_all ∙ e)
    where
      first : (a b : Bool) → (a && b) ≡ true → a ≡ true
      first true b h = refl
      first false b h = h

      by : (o : Option (Vec ℕ Global)) → ((k : ℕ) → unset_among o old.unset.items k ≡ true → unset_at old.unset.items k ≡ true) → (unset_among o mid.unset.items k && not (unset_at behind.unset.items k)) ≡ true → unset_at old.unset.items k ≡ true
      by None was e = sym (so_far.unset k) ∙ first (unset_at mid.unset.items k) (not (unset_at behind.unset.items k)) e
      by (Some v) was e = was k (first (is_among k v.items) (not (unset_at behind.unset.items k)) e)

  -- a case that is no default
  pub case_walked : (x.patterns ≡ [] → ⊥) → (all : Vec ℕ Global) → ((k : ℕ) → is_among k all.items ≡ (unset_among common mid.unset.items k && not (unset_at behind.unset.items k)))
      → (new : Walk) → new.sources ≡ behind.sources → length new.unset.items ≡ length behind.unset.items → ((k : ℕ) → unset_at new.unset.items k ≡ unset_at mid.unset.items k)
      → CasesWalked numbers items (at + 1) old new (Some all)
  case_walked some all by_all new rows size back = record {
    room = λ count room.
        let r = walked.room count (so_far.room count room) in
        record { sources = ap (λ (v : Vec (Vec SigBit Global) Global). length v.items) rows ∙ r.sources; unset = size ∙ r.unset };
    size = size ∙ walked.size ∙ so_far.size;
    unset = λ k. back k ∙ so_far.unset k;
    was = λ k e. among_was all.items k (by_all k) e;
    before = λ bits are room b k e.
        let b' = so_far.before bits are room b k e in
        record {
          reach = either b'.reach (reach_case b x);
          all = either_again b'.reach (reach_case b x) (reach_cases b (cases_of (drop (at + 1) items))) ∙ ap (either b'.reach) (sym (this b x.patterns refl)) ∙ b'.all;
          sources = ap (λ (v : Vec (Vec SigBit Global) Global). sources_at v.items k) rows ∙ more bits are room b k e b';
          set = both_set bits are room b k e b' all.items (by_all k);
        };
  }
    where
      this : (b : WireBit) (ps : List (List SigBit)) → x.patterns ≡ ps → reach_cases b (cases_of (drop at items)) ≡ either (reach_case b x) (reach_cases b (cases_of (drop (at + 1) items)))
      this b [] none = absurd (some none)
      this b (p ∷ ps) is = ap (reach_cases b) left ∙ ap (λ qs. reach_cases b (OneCase qs x.assigns x.attributes x.switches (cases_of (drop (at + 1) items)))) is

  -- a default
  pub default_walked : x.patterns ≡ [] → (all : Vec ℕ Global) → ((k : ℕ) → is_among k all.items ≡ (unset_among common mid.unset.items k && not (unset_at behind.unset.items k)))
      → (new : Walk) → new.sources ≡ behind.sources → length new.unset.items ≡ length behind.unset.items → ((k : ℕ) → unset_at new.unset.items k ≡ (unset_at mid.unset.items k && not (is_among k all.items)))
      → Walked numbers (λ b. reach_cases b (cases_of items)) old new × AreSet all.items old.unset.items new.unset.items
  default_walked none all by_all new rows size taken = (
    record {
      size = size ∙ walked.size ∙ so_far.size;
      room = λ count room.
          let r = walked.room count (so_far.room count room) in
          record { sources = ap (λ (v : Vec (Vec SigBit Global) Global). length v.items) rows ∙ r.sources; unset = size ∙ r.unset };
      gains = λ bits are room b k e.
          let b' = so_far.before bits are room b k e in
          let whole : either b'.reach (reach_case b x) ≡ reach_cases b (cases_of items) = ap (either b'.reach) (sym (this b)) ∙ b'.all in
          subst (λ r. Gains r old new k) whole
          (record {
            sources = ap (λ (v : Vec (Vec SigBit Global) Global). sources_at v.items k) rows ∙ more bits are room b k e b';
            unset =
                taken k ∙ (λ i. so_far.unset k i && not (both_set bits are room b k e b' all.items (by_all k) i))
                ∙ twice (unset_at old.unset.items k) (b'.reach.keeps || (reach_case b x).keeps);
          });
    },
    record {
      was = λ k e. among_was all.items k (by_all k) e;
      is = λ k. taken k ∙ ap (λ t. t && not (is_among k all.items)) (so_far.unset k);
    },
  )
    where
      this : (b : WireBit) → reach_cases b (cases_of (drop at items)) ≡ reach_case b x
      this b = ap (reach_cases b) left ∙ ap (λ qs. reach_cases b (OneCase qs x.assigns x.attributes x.switches (cases_of (drop (at + 1) items)))) none

      twice : (u k : Bool) → (u && not (u && not k)) ≡ (u && k)
      twice true true = refl
      twice true false = refl
      twice false k = refl

-- no default was met
pub cases_end : (numbers : ByBit ℕ) (items : List CaseView) (at : ℕ) → length items ≤ at → (old new : Walk) (common : Option (Vec ℕ Global)) → CasesWalked numbers items at old new common
    → Walked numbers (λ b. reach_cases b (cases_of items)) old new
cases_end numbers items at h old new common so_far = record {
  size = so_far.size;
  room = so_far.room;
  gains = λ bits are room b k e.
      let b' = so_far.before bits are room b k e in
      let whole : record { sources = b'.reach.sources; keeps = true } ≡ reach_cases b (cases_of items) =
      sym (either_none b'.reach) ∙ ap (λ cs. either b'.reach (reach_cases b (cases_of cs))) (sym (drop_all at items h)) ∙ b'.all in
      subst (λ r. Gains r old new k) whole (record { sources = b'.sources; unset = so_far.unset k ∙ and_true (unset_at old.unset.items k) });
}
