-- Rounds of the three passes, one after another.
use Rattle.std.proofs.Common.{◌≡◌, ℕ, zero, suc, ◌+◌, ◌-◌, ◌<◌, ◌≤◌, List, [], ◌∷◌, Bool, true, refl, sym, ◌∙◌, ap, arith}
use Rattle.std.specs.Prelude.{◌&&◌}
use Rattle.std.proofs.lemmas.Bool.{and_parts}
use Rattle.rtl_ir.specs.Flat.Cell.{instances}
use Rattle.rtl_ir.specs.Flat.Place.{Frame}
use Rattle.rtl_ir.specs.Flat.Tree as flat
use Rattle.rtl_ir.specs.Types as types
use Rattle.rtl_ir.specs.declared.module.Module.{Module}
use Rattle.rtl_ir.specs.declared.ports.PortTable.{PortTable}
use Rattle.net_model.specs.Refine.{AgreeOn, IsWellDriven}
use Rattle.pass_laws.specs.Pass.{IsPass}
use Rattle.pass_laws.specs.Ready.{IsReady}
use Rattle.pass_laws.proofs.Passes.{IsPass_refl, IsPass_trans}
use Rattle.opt_expr.specs.Sweep.{expr_of}
use Rattle.opt_expr.proofs.Sweeping.{expr_passes}
use Rattle.opt_merge.specs.Merge.{merge_of}
use Rattle.opt_merge.proofs.Refining.{merge_pass}
use Rattle.opt_clean.specs.Clean.{clean_of}
use Rattle.opt_clean.proofs.Cleaning.{clean_pass}
use Rattle.opt_rounds.specs.Rounds.{opt_of, round_of, rounds_of}

module _ (P : types.Ports) where
  -- behind a round that changes nothing none does
  rounds_stay : (n : ℕ) (m : Module) → round_of P m ≡ m → rounds_of P n m ≡ m
  unfolding rounds_of
  rounds_stay zero m e = refl
  rounds_stay (suc n) m e = ap (rounds_of P n) e ∙ rounds_stay n m e

  rounds_more : (n k : ℕ) (m : Module) → rounds_of P (n + k) m ≡ rounds_of P k (rounds_of P n m)
  unfolding rounds_of
  rounds_more zero k m = let e : zero + k ≡ k = omega arith in ap (λ j. rounds_of P j m) e
  rounds_more (suc n) k m =
      let e : suc n + k ≡ suc (n + k) = omega arith in
      ap (λ j. rounds_of P j m) e ∙ rounds_more n k (round_of P m)

  -- the rounds that are left make of the module what all make of the first: at the start, behind a round that changes
  -- something, and where no round is left
  pub all_left : (m : Module) → rounds_of P (32 - 0) m ≡ opt_of P m
  unfolding opt_of
  all_left m = refl

  pub fewer_left : (r : ℕ) (m after all : Module) → r < 32 → after ≡ round_of P m → rounds_of P (32 - r) m ≡ all → rounds_of P (32 - (r + 1)) after ≡ all
  unfolding rounds_of
  fewer_left r m after all h e f =
      let one : 32 - r ≡ suc (32 - (r + 1)) = omega (arith, h) in
      ap (rounds_of P (32 - (r + 1))) e ∙ sym (ap (λ n. rounds_of P n m) one) ∙ f

  pub none_left : (r : ℕ) (m all : Module) → 32 ≤ r → rounds_of P (32 - r) m ≡ all → m ≡ all
  unfolding rounds_of
  none_left r m all h f = let e : 32 - r ≡ zero = omega (arith, h) in sym (ap (λ n. rounds_of P n m) e) ∙ f

  pub opt_stops : (n : ℕ) (m : Module) → n ≤ 32 → round_of P (rounds_of P n m) ≡ rounds_of P n m → opt_of P m ≡ rounds_of P n m
  unfolding opt_of
  opt_stops n m h e =
      let all : 32 ≡ n + (32 - n) = omega (arith, h) in
      ap (λ k. rounds_of P k m) all ∙ rounds_more n (32 - n) m ∙ rounds_stay (32 - n) (rounds_of P n m) e

  -- behind a round that changes nothing `opt` changes nothing
  pub opt_stays : (m : Module) → round_of P m ≡ m → opt_of P m ≡ m
  unfolding opt_of
  opt_stays m e = rounds_stay 32 m e

  -- so it is of what a round gives that is what it was given
  pub opt_settles : (m after : Module) → after ≡ round_of P m → after ≡ m → opt_of P after ≡ after
  opt_settles m after e same = ap (opt_of P) same ∙ opt_stays m (sym e ∙ same) ∙ sym same

  -- a round, of what the three passes give
  pub one_round : (m folded merged cleaned : Module) → folded ≡ expr_of P m → merged ≡ merge_of folded → cleaned ≡ clean_of P merged → cleaned ≡ round_of P m
  unfolding round_of
  one_round m folded merged cleaned e f g = g ∙ ap (clean_of P) (f ∙ ap merge_of e)

  -- and where none of them changes anything, the round does not
  pub round_same : (m folded merged cleaned : Module) (s t u : Bool)
      → (s ≡ true → folded ≡ m) → (t ≡ true → merged ≡ folded) → (u ≡ true → cleaned ≡ merged) → s && t && u ≡ true → cleaned ≡ m
  round_same m folded merged cleaned s t u f g h e =
      let two = and_parts (s && t) u e in
      let one = and_parts s t two.0 in
      h two.1 ∙ g one.1 ∙ f one.0

  -- a round that changes nothing is the last that counts
  pub last_round : (r : ℕ) (m after all : Module) → after ≡ round_of P m → after ≡ m → rounds_of P (32 - r) m ≡ all → after ≡ all
  last_round r m after all e same f = same ∙ sym (rounds_stay (32 - r) m (sym e ∙ same)) ∙ f

module _ (table : PortTable) where
  abbrev P : types.Ports
  P = types.table_ports table.modules

  -- what a table says of instances it says
  agree_refl : (frames : List Frame) → AgreeOn (flat.table_ports table) (flat.table_ports table) frames
  agree_refl [] = tt
  agree_refl (f ∷ frames) = (refl, agree_refl frames)

  -- where no bit has two drivers, none has after a pass
  pub pass_driven : (m n : Module) → IsPass table m n → IsWellDriven (flat.table_ports table) m → IsWellDriven (flat.table_ports table) n
  pass_driven m n h = h.driven (flat.table_ports table) (agree_refl (instances m.cells))

  pub round_pass : (m : Module) → IsReady P m → IsPass table m (round_of P m)
  unfolding round_of
  round_pass m h =
      let one = expr_passes table m h in
      let two = merge_pass table (expr_of P m) (one.ready h) in
      let three = clean_pass table (merge_of (expr_of P m)) (two.ready (one.ready h)) in
      IsPass_trans table m (merge_of (expr_of P m)) (round_of P m) (IsPass_trans table m (expr_of P m) (merge_of (expr_of P m)) one two) three

  rounds_pass : (n : ℕ) (m : Module) → IsReady P m → IsPass table m (rounds_of P n m)
  unfolding rounds_of
  rounds_pass zero m h = IsPass_refl table m
  rounds_pass (suc n) m h =
      let one = round_pass m h in
      IsPass_trans table m (round_of P m) (rounds_of P n (round_of P m)) one (rounds_pass n (round_of P m) (one.ready h))

  pub opt_pass : (m : Module) → IsReady P m → IsPass table m (opt_of P m)
  unfolding opt_of
  opt_pass m h = rounds_pass 32 m h

  pub round_ready : (m : Module) → IsReady P m → IsReady P (round_of P m)
  round_ready m h = (round_pass m h).ready h

  pub round_driven : (m : Module) → IsReady P m → IsWellDriven (flat.table_ports table) m → IsWellDriven (flat.table_ports table) (round_of P m)
  round_driven m h = pass_driven m (round_of P m) (round_pass m h)
