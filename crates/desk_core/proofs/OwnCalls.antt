-- The calls of a seat with which a desk asks a shared cache for the keys that it does not keep.
use Rattle.std.proofs.Common.{◌≡◌, ℕ, zero, suc, ◌+◌, ◌≤◌, List, [], ◌∷◌, ◌++◌, Bool, true, false, true≢false, ◌||◌, cond, refl, sym, ap, ◌∙◌, subst, arith}
use Rattle.std.specs.Str.{bytes_eq}
use Rattle.rtl_bits.specs.Counts.{risen}
use Rattle.rtl_sig.specs.Names.{has_name}
use Rattle.result_cache.specs.declared.call.Act.{Act}
use Rattle.result_cache.specs.declared.call.Call.{Call}
use Rattle.result_cache.specs.Counts.{claims, count_of, drops, fills, give_backs, times_of}
use Rattle.result_cache.specs.Seats.{Seated}
use Rattle.result_cache.proofs.Keys.{bytes_other, bytes_same, bytes_true}
use Rattle.build_crew.specs.Calls.{HasFound, one_if}
use Rattle.build_crew.specs.Kept.{HasStill}
use Rattle.build_crew.proofs.Asking.{count_append, made_both, made_none, times_append}
use Rattle.work_crew.proofs.Steps.{risen_more}
use Rattle.desk_core.specs.Solo.{Builds, HasBuilt}
use Rattle.desk_core.proofs.Rises.{risen_none}

-- where calls on other keys than one do not count, those on it are all that count
count_only : (counts : Act → ℕ) (key : List ℕ) (calls : List Call) → ((q : List ℕ) → bytes_eq key q ≡ false → times_of counts q calls ≡ 0) → count_of counts calls ≡ times_of counts key calls
count_only counts key [] none = refl
count_only counts key (c ∷ calls) none = by (bytes_eq c.key key) refl (count_only counts key calls (λ q other. let a = none q other in omega (arith, a)))
  where
    by : (b : Bool) → bytes_eq c.key key ≡ b → count_of counts calls ≡ times_of counts key calls → counts c.act + count_of counts calls ≡ cond b (counts c.act) 0 + times_of counts key calls
    by true is rest = ap (λ (n : ℕ). counts c.act + n) rest
    by false is rest =
        let here = none c.key (bytes_other c.key key is) in
        let same : cond (bytes_eq c.key c.key) (counts c.act) 0 ≡ counts c.act = ap (λ (b : Bool). cond b (counts c.act) 0) (bytes_same c.key c.key refl) in
        omega (arith, here, same, rest)

module _ {key : List ℕ} {is_new : Bool} {old new : Seated} {n : ℕ} (h : HasFound key is_new old new n) where
  filled_other : (q : List ℕ) → bytes_eq key q ≡ false → times_of fills q h.more ≡ 0
  filled_other q other = h.filled q ∙ ap (λ (b : Bool). cond is_new (one_if b) 0) other ∙ none is_new
    where
      none : (b : Bool) → ◌≡◌ {A = ℕ} (cond b 0 0) 0
      none true = refl
      none false = refl

  filled_once : n ≡ count_of fills h.more
  filled_once =
      h.ticks
      ∙ sym (count_only fills key h.more filled_other ∙ h.filled key ∙ ap (λ (b : Bool). cond is_new (one_if b) 0) (bytes_same key key refl))

  built_one : (kept : List (List ℕ)) → has_name kept key ≡ false → HasBuilt kept (key ∷ []) old new n
  built_one kept unknown = record {
    more = h.more;
    made = h.made;
    claimed = λ q known. h.only q (apart q known (bytes_eq key q) refl);
    filled = λ q some. there q some (bytes_eq key q) refl;
    dropped = h.dropped;
    gave = h.gave;
    ticks = filled_once;
  }
    where
      apart : (q : List ℕ) → has_name kept q ≡ true → (b : Bool) → bytes_eq key q ≡ b → b ≡ false
      apart q known true is = absurd (true≢false (sym known ∙ ap (has_name kept) (sym (bytes_true key q is)) ∙ unknown))
      apart q known false is = refl

      there : (q : List ℕ) → 1 ≤ times_of fills q h.more → (b : Bool) → bytes_eq key q ≡ b → (bytes_eq q key || false) ≡ true
      there q some true is = ap (λ (b : Bool). b || false) (bytes_same q key (sym (bytes_true key q is)))
      there q some false is = let none = filled_other q is in absurd (omega (arith, some, none))

-- a seat finds the value of a key that the desk does not keep
pub builds_one : (kept : List (List ℕ)) (key : List ℕ) (old new : Seated) (before after : ℕ) → has_name kept key ≡ false
    → (n : ℕ) × (is_new : Bool) × (after ≡ risen before n) × HasFound key is_new old new n → Builds kept (key ∷ []) old new before after
builds_one kept key old new before after unknown (n, is_new, rose, h) = (n, rose, built_one h kept unknown)

built_none : (kept keys : List (List ℕ)) (s : Seated) → HasBuilt kept keys s s 0
built_none kept keys s = record {
  more = [];
  made = made_none s;
  claimed = λ q known. refl;
  filled = λ q some. absurd (omega (arith, some));
  dropped = λ q. refl;
  gave = refl;
  ticks = refl;
}

-- it makes no call
pub builds_none : (kept keys : List (List ℕ)) (old new : Seated) (before after : ℕ) → new ≡ old → after ≡ before → Builds kept keys old new before after
builds_none kept keys old new before after same still =
    (0, still ∙ risen_none before, subst (λ (t : Seated). HasBuilt kept keys old t 0) (sym same) (built_none kept keys old))

built_both : (kept mid few more all : List (List ℕ)) (s t u : Seated) (m n : ℕ) → HasStill kept mid → HasStill few all → HasStill more all
    → HasBuilt kept few s t m → HasBuilt mid more t u n → HasBuilt kept all s u (m + n)
built_both kept mid few more all s t u m n still left right f g = record {
  more = f.more ++ g.more;
  made = made_both s t u f.more g.more f.made g.made;
  claimed = λ q known.
      let e = times_append claims q f.more g.more in
      let a = f.claimed q known in
      let b = g.claimed q (still q known) in
      omega (arith, e, a, b);
  filled = λ q some. there q some (times_of fills q f.more) refl;
  dropped = λ q.
      let e = times_append drops q f.more g.more in
      let a = f.dropped q in
      let b = g.dropped q in
      omega (arith, e, a, b);
  gave = let e = count_append give_backs f.more g.more in let a = f.gave in let b = g.gave in omega (arith, e, a, b);
  ticks = let e = count_append fills f.more g.more in let a = f.ticks in let b = g.ticks in omega (arith, e, a, b);
}
  where
    there : (q : List ℕ) → 1 ≤ times_of fills q (f.more ++ g.more) → (a : ℕ) → times_of fills q f.more ≡ a → has_name all q ≡ true
    there q some zero is = let e = times_append fills q f.more g.more in right q (g.filled q (omega (arith, some, e, is)))
    there q some (suc a) is = left q (f.filled q (omega (arith, is)))

-- it does one after the other, where what was kept is kept still
pub builds_both : (kept mid few more all : List (List ℕ)) (s t u : Seated) (m n o : ℕ) → HasStill kept mid → HasStill few all → HasStill more all
    → Builds kept few s t m n → Builds mid more t u n o → Builds kept all s u m o
builds_both kept mid few more all s t u m n o still left right (a, rose, f) (b, rose_more, g) = (
  a + b,
  rose_more ∙ ap (λ (k : ℕ). risen k b) rose ∙ risen_more m a b,
  built_both kept mid few more all s t u a b still left right f g,
)

-- fewer are kept
pub builds_fewer : (few kept keys : List (List ℕ)) (old new : Seated) (before after : ℕ) → HasStill few kept → Builds kept keys old new before after → Builds few keys old new before after
builds_fewer few kept keys old new before after still (n, rose, h) = (
  n,
  rose,
  record {
    more = h.more;
    made = h.made;
    claimed = λ q known. h.claimed q (still q known);
    filled = h.filled;
    dropped = h.dropped;
    gave = h.gave;
    ticks = h.ticks;
  },
)
