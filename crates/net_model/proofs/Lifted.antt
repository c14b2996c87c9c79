-- From what a pass owes to refinement in any two designs that differ in its module.
use Rattle.std.proofs.Common.{◌≡◌, ℕ, zero, suc, List, ◌∷◌, ◌++◌, ⊎_elim, sym, subst}
use Rattle.rtl_bits.specs.declared.bit.Bit.{Bit}
use Rattle.rtl_bits.specs.Knowledge.{Below}
use Rattle.rtl_bits.proofs.Orders.{Below_trans}
use Rattle.rtl_ir.specs.declared.module.Module.{Module}
use Rattle.rtl_ir.specs.Flat.Cell.{Ports, instances}
use Rattle.rtl_ir.specs.Flat.Driver.{Driven}
use Rattle.rtl_ir.specs.Flat.Place.{Path, Place}
use Rattle.rtl_ir.specs.Flat.Reads.{reads}
use Rattle.rtl_ir.specs.Flat.Rows.{rows_of}
use Rattle.rtl_ir.specs.Flat.Tree.{design_ports}
use Rattle.net_model.specs.Lists.{In}
use Rattle.net_model.specs.Run.{Time, Start, Step}
use Rattle.net_model.specs.Valuation.{Valuation}
use Rattle.net_model.specs.Value.{value_of}
use Rattle.net_model.specs.Refine.{with_body, AgreeOn, RefinesOver, SolvedBefore, RowsRefine}
use Rattle.net_model.specs.Relate.{Reached, Says, Related, SameMoment, RowsRelate}
use Rattle.net_model.proofs.Orders.{below as below_order}
use Rattle.net_model.proofs.Drivers.{value_on, BelowOn, TimeOn}
use Rattle.net_model.proofs.Reaching.{rows_reach}
use Rattle.net_model.proofs.Relating.{reached_solved, modules_below, pairs_body}
use Rattle.net_model.proofs.WellDriven.{one_driver}
use Rattle.net_model.proofs.Composing.{ports_swapped}

-- the general lifting
pub related : (b c : Module) (ports : Ports) (says : Says) → RowsRelate b c ports says → RefinesOver b c ports
related b c ports says r = record {
  holds = λ pre post fb fc ab. let ac : AgreeOn ports (design_ports (with_body pre c post)) (instances c.cells) = subst (λ z. AgreeOn ports z (instances c.cells)) (ports_swapped b c r.id r.ports_same pre post) (subst (λ z. AgreeOn ports (design_ports (with_body pre b post)) z) r.children ab) in modules_below b c ports says r (with_body pre b post) (with_body pre c post) (pairs_body b c ports says r pre post fb.ids) ab ac (pre ++ b ∷ post) (pre ++ c ∷ post) (pairs_body b c ports says r pre post fb.ids) (one_driver (with_body pre c post) fc).rows;
}

-- a row gives less over valuations that are related, where what is said of each bit that it reads is below
pub row_grows : (b : Module) (ports : Ports) (says : Says) (p : Path) (t u : Time Place) → SameMoment ports (instances b.cells) says p t u → (v w : Valuation) → Related ports (instances b.cells) says p v w → (x : Driven) → In x (rows_of ports p b) → ((z : Valuation) (q : Place) → In q (reads x.driver) → q.path ≡ p → (a : Bit) → says p z q.spot a → Below a (z q)) → Below (value_of x.driver t v) (value_of x.driver u w)
row_grows b ports says p t u st v w h x i means =
    value_on Below below_order x.driver t u (moment t u st) v w (bits v w h)
  where
    bits : (v w : Valuation) → Related ports (instances b.cells) says p v w → BelowOn Below below_order (reads x.driver) v w
    bits v w h q l =
        ⊎_elim
        (λ e. let at : record { path = p; spot = q.spot } ≡ q = λ i. record { path = sym e i; spot = q.spot } in
        means w q l e (v q) (subst (λ z. says p w q.spot (v z)) at (h.own q.spot)))
        (λ o. h.outer q o)
        ((rows_reach ports p b x i).read q l)

    moment : (t u : Time Place) → SameMoment ports (instances b.cells) says p t u → TimeOn Below below_order (reads x.driver) t u
    moment Start Start st = tt
    moment (Step v x f) (Step w y g) st = (bits v w st.0, st.1, st.2)
    moment Start (Step w y g) st = absurd st
    moment (Step v x f) Start st = absurd st

-- a row that stays is met
pub row_stays : (b : Module) (ports : Ports) (says : Says) (es : List Driven) (p : Path) (t u : Time Place) → SameMoment ports (instances b.cells) says p t u → (v w : Valuation) → Related ports (instances b.cells) says p v w → (k : ℕ) → Reached k es u w → (x : Driven) → In x (rows_of ports p b) → In x es → ((z : Valuation) (q : Place) → In q (reads x.driver) → q.path ≡ p → (a : Bit) → says p z q.spot a → Below a (z q)) → Below (value_of x.driver t v) (w x.place)
row_stays b ports says es p t u st v w h k s x i j means =
    Below_trans (value_of x.driver t v) (value_of x.driver u w) (w x.place) (row_grows b ports says p t u st v w h x i means) ((reached_solved es k u w s).met x j)

-- the order of knowledge is said of each bit
abbrev pub just_below : Says
just_below p w o a = Below a (w (record { path = p; spot = o }))

-- what a pass that keeps all bits owes is what any pass owes, where the order of knowledge is said
pub refines_relates : (b c : Module) (ports : Ports) → RowsRefine b c ports → RowsRelate b c ports just_below
refines_relates b c ports r = record {
  id = r.id;
  ports_same = r.ports_same;
  children = r.children;
  port_to = λ p w n i k l a h. h;
  port_from = λ p w n i k l a h. h;
  unknown = λ p w o. tt;
  rows = λ p t u st v w h n s x i. let low = Below_trans (value_of x.driver t v) (value_of x.driver u w) (w x.place) (row_grows b ports just_below p t u st v w h x i (λ z q l e a k. subst (λ y. Below a (z (record { path = y; spot = q.spot }))) (sym e) k)) (r.rows p u w (reached_solved (rows_of ports p c) n u w s) (was p n u w s) x i) in
      record { own = λ e. subst (λ y. Below (value_of x.driver t v) (w (record { path = y; spot = x.place.spot }))) e low; outer = λ _. low };
}
  where
    was : (p : Path) (n : ℕ) (u : Time Place) (w : Valuation) → Reached n (rows_of ports p c) u w → SolvedBefore (rows_of ports p c) u
    was p n Start w s = tt
    was p (suc n) (Step z y g) w s = (s.2.0, reached_solved (rows_of ports p c) n s.2.0 z s.2.1)
    was p zero (Step z y g) w s = absurd s

-- the simple lifting
pub lifted : (b c : Module) (ports : Ports) → RowsRefine b c ports → RefinesOver b c ports
lifted b c ports r = related b c ports just_below (refines_relates b c ports r)
