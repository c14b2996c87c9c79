-- Parts of a tree are walked one after another.
use Rattle.std.proofs.Common.{◌≡◌, ℕ, ◌<◌, ◌&&◌, Bool, true, false, List, [], ◌∷◌, ◌++◌, length, get_or, set, Option, Some, None, if◌then◌else◌, append_assoc, append-nil, refl, sym, ap, subst, ◌∙◌}
use Rattle.std.proofs.lemmas.Bool.{false≢true}
use Rattle.std.proofs.lemmas.List.{length-set, get_or-set_same, get_or-set_other}
use Rattle.std.specs.HashMap.{get_by}
use Rattle.std.specs.Option.{option_or}
use Rattle.rtl_sig.specs.declared.sig.SigBit.{SigBit}
use Rattle.rtl_sig.specs.declared.sig.WireBit.{WireBit}
use Rattle.rtl_ir.specs.Signals.{same_bit}
use Rattle.process_trees.specs.declared.walk.Walk.{Walk}
use Rattle.process_trees.specs.Numbers.{AreNumbers, ByBit, number_in}
use Rattle.process_trees.specs.Reach.{Reach, after, given_last, if_kept, untouched}
use Rattle.process_trees.specs.Walk.{Gains, Gives, HasRoom, Walked, rows_of, sources_at, unset_at}
use Rattle.process_trees.proofs.Rows.{length_rows}
use Rattle.process_trees.proofs.Numbering.{same_equal, same_itself, stands_at}

-- two walks with the same rows and marks
pub record AreSame (old new : Walk) : Type 0 where
  pub sources : (k : ℕ) → sources_at new.sources.items k ≡ sources_at old.sources.items k
  pub unset : (k : ℕ) → unset_at new.unset.items k ≡ unset_at old.unset.items k
  pub size : length new.unset.items ≡ length old.unset.items
  pub room : (count : ℕ) → HasRoom count old → HasRoom count new

kept_none : (t : Bool) → if_kept t [] ≡ []
kept_none true = refl
kept_none false = refl

and_true : (a : Bool) → (a && true) ≡ a
and_true true = refl
and_true false = refl

same_gains : (old new : Walk) → AreSame old new → (k : ℕ) → Gains untouched old new k
same_gains old new same k = record {
  sources = same.sources k ∙ sym (append-nil (sources_at old.sources.items k)) ∙ ap (λ xs. sources_at old.sources.items k ++ xs) (sym (kept_none (unset_at old.unset.items k)));
  unset = same.unset k ∙ sym (and_true (unset_at old.unset.items k));
}

-- nothing is walked
pub none_walked : (numbers : ByBit ℕ) (old new : Walk) → AreSame old new → Walked numbers (λ b. untouched) old new
none_walked numbers old new same = record {
  size = same.size;
  room = same.room;
  gains = λ bits are room b k e. same_gains old new same k;
}

pub itself : (walk : Walk) → AreSame walk walk
itself walk = record { sources = λ k. refl; unset = λ k. refl; size = refl; room = λ count h. h }

-- a part, and then one that acts before it
gains_after : (later earlier : Reach) (a b c : Walk) (k : ℕ) → Gains later a b k → Gains earlier b c k → Gains (after later earlier) a c k
gains_after later earlier a b c k p q = record {
  sources =
      q.sources
      ∙ (λ i. p.sources i ++ if_kept (p.unset i) earlier.sources)
      ∙ append_assoc (sources_at a.sources.items k) (if_kept (unset_at a.unset.items k) later.sources) (if_kept (unset_at a.unset.items k && later.keeps) earlier.sources)
      ∙ ap (λ xs. sources_at a.sources.items k ++ xs) (kept (unset_at a.unset.items k) later.keeps);
  unset = q.unset ∙ ap (λ t. t && earlier.keeps) p.unset ∙ and_assoc (unset_at a.unset.items k) later.keeps earlier.keeps;
}
  where
    kept : (u l : Bool) → if_kept u later.sources ++ if_kept (u && l) earlier.sources ≡ if_kept u (later.sources ++ if_kept l earlier.sources)
    kept true l = refl
    kept false l = refl

    and_assoc : (x y z : Bool) → ((x && y) && z) ≡ (x && (y && z))
    and_assoc true y z = refl
    and_assoc false y z = refl

pub walked_after : (numbers : ByBit ℕ) (later earlier : WireBit → Reach) (a b c : Walk) → Walked numbers later a b → Walked numbers earlier b c → Walked numbers (λ x. after (later x) (earlier x)) a c
walked_after numbers later earlier a b c p q = record {
  size = q.size ∙ p.size;
  room = λ count h. q.room count (p.room count h);
  gains = λ bits are h x k e. gains_after (later x) (earlier x) a b c k (p.gains bits are h x k e) (q.gains bits are (p.room (length bits) h) x k e);
}

pub walked_as : (numbers : ByBit ℕ) (f g : WireBit → Reach) (old new : Walk) → ((b : WireBit) → f b ≡ g b) → Walked numbers f old new → Walked numbers g old new
walked_as numbers f g old new same w = record {
  size = w.size;
  room = w.room;
  gains = λ bits are h b k e. subst (λ r. Gains r old new k) (same b) (w.gains bits are h b k e);
}

-- assigns after others
pub given_after : (o p : Option SigBit) → after (given_last o) (given_last p) ≡ given_last (option_or o p)
given_after None None = refl
given_after None (Some t) = refl
given_after (Some s) p = refl

-- ---- one place

-- a place that names no tree bit
pub place_off : (numbers : ByBit ℕ) (bit : WireBit) (source : SigBit) (walk : Walk) → get_by (same_bit bit) numbers ≡ None
    → Walked numbers (λ b. given_last (if same_bit bit b then Some source else None)) walk walk
place_off numbers bit source walk none = record {
  size = refl;
  room = λ count h. h;
  gains = λ bits are h b k e. by bits are b k e (same_bit bit b) refl;
}
  where
    by : (bits : List WireBit) → AreNumbers numbers bits → (b : WireBit) (k : ℕ) → number_in bits b ≡ Some k → (t : Bool) → same_bit bit b ≡ t
        → Gains (given_last (if t then Some source else None)) walk walk k
    by bits are b k e true same =
        let number : number_in bits bit ≡ None = sym (are bit) ∙ none in
        let other : number_in bits b ≡ None = subst (λ x. number_in bits x ≡ None) (same_equal bit b same) number in
        absurd (let some : None ≡ Some k = sym other ∙ e in cc)
    by bits are b k e false same = same_gains walk walk (itself walk) k

-- a place that names one
pub place_on : (numbers : ByBit ℕ) (bit : WireBit) (source : SigBit) (old new : Walk) (at : ℕ) → get_by (same_bit bit) numbers ≡ Some at → Gives at source old new
    → Walked numbers (λ b. given_last (if same_bit bit b then Some source else None)) old new
place_on numbers bit source old new at some gives = record {
  size = gives.size;
  room = gives.room;
  gains = λ bits are h b k e. by bits are h b k e (same_bit bit b) refl;
}
  where
    by : (bits : List WireBit) → AreNumbers numbers bits → HasRoom (length bits) old → (b : WireBit) (k : ℕ) → number_in bits b ≡ Some k → (t : Bool) → same_bit bit b ≡ t
        → Gains (given_last (if t then Some source else None)) old new k
    by bits are h b k e true same =
        let number : number_in bits b ≡ Some at = subst (λ x. number_in bits x ≡ Some at) (same_equal bit b same) (sym (are bit) ∙ some) in
        let equal : at ≡ k = let both : Some at ≡ Some k = sym number ∙ e in cc in
        let here = stands_at bits b k e in
        subst (Gains (record { sources = source ∷ []; keeps = false }) old new) equal (gives.here (length bits) h (subst (λ x. x < length bits) (sym equal) here.0))
    by bits are h b k e false same =
        let number : number_in bits bit ≡ Some at = sym (are bit) ∙ some in
        let others = gives.others k (λ equal. not_same bits bit b at k number e same equal) in
        same_gains_at others.0 others.1
      where
        same_gains_at : sources_at new.sources.items k ≡ sources_at old.sources.items k → unset_at new.unset.items k ≡ unset_at old.unset.items k → Gains untouched old new k
        same_gains_at s u = record {
          sources = s ∙ sym (append-nil (sources_at old.sources.items k)) ∙ ap (λ xs. sources_at old.sources.items k ++ xs) (sym (kept_none (unset_at old.unset.items k)));
          unset = u ∙ sym (and_true (unset_at old.unset.items k));
        }

        not_same : (bits : List WireBit) (x y : WireBit) (i j : ℕ) → number_in bits x ≡ Some i → number_in bits y ≡ Some j → same_bit x y ≡ false → j ≡ i → ⊥
        not_same bits x y i j p q different equal =
            let a = (stands_at bits x i p).1 x in
            let b = (stands_at bits y j q).1 x in
            let equal_bits : x ≡ y = sym a ∙ ap (λ n. get_or bits n x) (sym equal) ∙ b in
            false≢true (sym different ∙ ap (same_bit x) (sym equal_bits) ∙ same_itself x)

-- ---- a source is found

module _ (old new : Walk) (at : ℕ) (source : SigBit) where
  -- where a value of before is left
  pub gives_new : at < length old.sources.items → unset_at old.unset.items at ≡ true
      → rows_of new.sources.items ≡ set (rows_of old.sources.items) at (sources_at old.sources.items at ++ source ∷ []) → new.unset.items ≡ set old.unset.items at false → at < length old.unset.items
      → Gives at source old new
  gives_new inside left rows marks fits = record {
    size = ap length marks ∙ length-set old.unset.items at false;
    room = λ count h. record {
      sources = sym (length_rows new.sources.items) ∙ ap length rows ∙ length-set (rows_of old.sources.items) at (sources_at old.sources.items at ++ source ∷ []) ∙ length_rows old.sources.items ∙ h.sources;
      unset = ap length marks ∙ length-set old.unset.items at false ∙ h.unset;
    };
    here = λ count h below. record {
      sources =
          ap (λ xs. get_or xs at []) rows
          ∙ get_or-set_same (rows_of old.sources.items) at (sources_at old.sources.items at ++ source ∷ []) [] (subst (λ n. at < n) (sym (length_rows old.sources.items)) inside)
          ∙ ap (λ t. sources_at old.sources.items at ++ if_kept t (source ∷ [])) (sym left);
      unset = ap (λ xs. get_or xs at false) marks ∙ get_or-set_same old.unset.items at false false fits ∙ none (unset_at old.unset.items at);
    };
    others = λ k other. (
      ap (λ xs. get_or xs k []) rows ∙ get_or-set_other (rows_of old.sources.items) at k (sources_at old.sources.items at ++ source ∷ []) [] other,
      ap (λ xs. get_or xs k false) marks ∙ get_or-set_other old.unset.items at k false false other,
    );
  }
    where
      none : (t : Bool) → false ≡ (t && false)
      none true = refl
      none false = refl

-- where none is left, or where there is no such bit
pub gives_none : (walk : Walk) (at : ℕ) (source : SigBit) → ((count : ℕ) → HasRoom count walk → at < count → unset_at walk.unset.items at ≡ false) → Gives at source walk walk
gives_none walk at source none = record {
  size = refl;
  room = λ count h. h;
  here = λ count h below. record {
    sources = sym (append-nil (sources_at walk.sources.items at)) ∙ ap (λ t. sources_at walk.sources.items at ++ if_kept t (source ∷ [])) (sym (none count h below));
    unset = none count h below ∙ ap (λ t. t && false) (sym (none count h below));
  };
  others = λ k other. (refl, refl);
}
