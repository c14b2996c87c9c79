-- A walk back along connections from a start, with a mark on the way that shows a loop.
use Rattle.std.proofs.Common.{◌≡◌, ℕ, zero, suc, ◌+◌, ◌<◌, ◌≤◌, Bool, true, false, eqb, List, length, Option, Some, None, refl, sym, ◌∙◌, ap, subst, arith}
use Rattle.std.proofs.lemmas.Bool.{eqb-true, eqb-false}
use Rattle.rtl_sig.specs.declared.sig.SigBit.{SigBit}
use Rattle.rtl_sig.specs.declared.sig.SigBit.TheVariants as sig
use Rattle.rtl_sig.specs.declared.sig.WireBit.{WireBit}
use Rattle.rtl_ir.specs.Follow.{end_within, source_at}
use Rattle.rtl_ir.specs.declared.follow.Join.{Join}
use Rattle.net_index.specs.IndexWays.{Leads, RunsOn}
use Rattle.net_index.proofs.IndexEnds.{ends_all, ends_later, ends_not, ends_on}

-- a bit ends no sooner than another one that is on its way
abbrev pub Follows : List Join → WireBit → WireBit → Type 0
Follows js b c = (n : ℕ) (e : SigBit) → end_within js n (sig.Wire b) ≡ Some e → (m : ℕ) × ((m ≤ n) × (end_within js m (sig.Wire c) ≡ Some e))

-- the bit is so many connections back from the start, and the mark is on the way to it
pub record Passed (js : List Join) (start mark bit : WireBit) (step : ℕ) : Type 0 where
  pub ahead : (m : ℕ) → end_within js (step + m) (sig.Wire start) ≡ end_within js m (sig.Wire bit)
  pub behind : (n : ℕ) (e : SigBit) → end_within js n (sig.Wire start) ≡ Some e → step ≤ n
  pub marked : Follows js mark bit

follows_self : (js : List Join) (b : WireBit) → Follows js b b
follows_self js b n e h = (n, (omega arith, h))

pub passed_start : (js : List Join) (b : WireBit) → Passed js b b b 0
passed_start js b = record { ahead = λ m. let z : 0 + m ≡ m = omega arith in ap (λ k. end_within js k (sig.Wire b)) z; behind = λ n e h. omega arith; marked = follows_self js b }

-- where the way from the bit ends, that from the start does
pub passed_end : (js : List Join) (start mark bit : WireBit) (step : ℕ) → Passed js start mark bit step → (e : SigBit) → Leads js (sig.Wire bit) e → Leads js (sig.Wire start) e
passed_end js start mark bit step p e leads = (step + leads.0, p.ahead leads.0 ∙ leads.1)

-- it does not where no number of connections leads to an end
runs_unless : (js : List Join) (s : SigBit) → ((n : ℕ) (e : SigBit) → end_within js n s ≡ Some e → ⊥) → RunsOn js s
runs_unless js s h n = by (end_within js n s) refl
  where
    by : (o : Option SigBit) → end_within js n s ≡ o → o ≡ None
    by None e = refl
    by (Some x) e = absurd (h n x e)

pub passed_loop : (js : List Join) (start mark bit : WireBit) (step : ℕ) → Passed js start mark bit step → RunsOn js (sig.Wire bit) → RunsOn js (sig.Wire start)
passed_loop js start mark bit step p runs = runs_unless js (sig.Wire start) (λ n e h.
    let later : end_within js (step + n) (sig.Wire start) ≡ Some e = ends_later js n (step + n) (sig.Wire start) e (omega arith) h in
    let none : end_within js (step + n) (sig.Wire start) ≡ None = p.ahead n ∙ runs n in
    cc)

-- after more steps than there are connections the way does not end
pub passed_out : (js : List Join) (start mark bit : WireBit) (step : ℕ) → Passed js start mark bit step → length js < step → RunsOn js (sig.Wire start)
passed_out js start mark bit step p far = runs_unless js (sig.Wire start) (λ n e h.
    let low = p.behind (length js) e (ends_all js n (sig.Wire start) e h) in
    omega arith)

-- one connection on
steps_down : (js : List Join) (mark bit next : WireBit) → source_at js bit ≡ Some (sig.Wire next) → Follows js mark bit
    → (n : ℕ) (e : SigBit) → end_within js n (sig.Wire mark) ≡ Some e → (m : ℕ) × ((m < n) × (end_within js m (sig.Wire next) ≡ Some e))
steps_down js mark bit next on marked n e h = by (marked n e h)
  where
    by : (m : ℕ) × ((m ≤ n) × (end_within js m (sig.Wire bit) ≡ Some e)) → (m : ℕ) × ((m < n) × (end_within js m (sig.Wire next) ≡ Some e))
    by (zero, (le, is)) = absurd (let f : end_within js 0 (sig.Wire bit) ≡ None = ends_not js (sig.Wire bit) (sig.Wire next) on in cc)
    by (suc m, (le, is)) = (m, (omega arith, sym (ends_on js m (sig.Wire bit) (sig.Wire next) on) ∙ is))

pub passed_on : (js : List Join) (start mark bit next : WireBit) (step : ℕ) → source_at js bit ≡ Some (sig.Wire next) → Passed js start mark bit step → Passed js start mark next (step + 1)
passed_on js start mark bit next step on p = record {
  ahead = λ m.
      let e : step + 1 + m ≡ step + suc m = omega arith in
      ap (λ k. end_within js k (sig.Wire start)) e ∙ p.ahead (suc m) ∙ ends_on js m (sig.Wire bit) (sig.Wire next) on;
  behind = λ n e h. behind n e h (p.behind n e h) (eqb n step) refl;
  marked = λ n e h. let m = steps_down js mark bit next on p.marked n e h in (m.0, (omega (arith, m.1.0), m.1.1));
}
  where
    behind : (n : ℕ) (e : SigBit) → end_within js n (sig.Wire start) ≡ Some e → step ≤ n → (t : Bool) → eqb n step ≡ t → step + 1 ≤ n
    behind n e h le true is =
        absurd (
        let j = eqb-true n step is in
        let i : n ≡ step + 0 = omega arith in
        let f : end_within js n (sig.Wire start) ≡ None = ap (λ k. end_within js k (sig.Wire start)) i ∙ p.ahead 0 ∙ ends_not js (sig.Wire bit) (sig.Wire next) on in
        cc)
    behind n e h le false is = let i = eqb-false n step is in omega arith

-- the mark moves up
pub passed_mark : (js : List Join) (start mark bit : WireBit) (step : ℕ) → Passed js start mark bit step → Passed js start bit bit step
passed_mark js start mark bit step p = record { ahead = p.ahead; behind = p.behind; marked = follows_self js bit }

-- back at the mark there is a loop
falls : (js : List Join) (s : SigBit) → ((n : ℕ) (e : SigBit) → end_within js n s ≡ Some e → (m : ℕ) × ((m < n) × (end_within js m s ≡ Some e)))
    → (bound n : ℕ) (e : SigBit) → n < bound → end_within js n s ≡ Some e → ⊥
falls js s down zero n e lt h = omega arith
falls js s down (suc bound) n e lt h = let m = down n e h in falls js s down bound m.0 e (omega (arith, m.1.0)) m.1.1

pub passed_back : (js : List Join) (start mark bit next : WireBit) (step : ℕ) → source_at js bit ≡ Some (sig.Wire next) → Passed js start mark bit step → next ≡ mark → RunsOn js (sig.Wire start)
passed_back js start mark bit next step on p same =
    passed_loop js start mark next (step + 1) (passed_on js start mark bit next step on p)
    (runs_unless js (sig.Wire next) (λ n e h.
    falls js (sig.Wire next) (λ k x g. steps_down js mark bit next on p.marked k x (subst (λ c. end_within js k (sig.Wire c) ≡ Some x) same g)) (suc n) n e (omega arith) h))
