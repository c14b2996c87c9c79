-- Drivers over numbered bits are drivers over bits.
use Rattle.std.proofs.Common.{◌≡◌, ◌<◌, ℕ, Bool, List, [], ◌∷◌, length, map, refl, sym, ◌∙◌, ap, subst}
use Rattle.rtl_bits.specs.declared.bit.Bit.{Bit}
use Rattle.rtl_bits.specs.declared.bit.Bit.TheVariants.{X}
use Rattle.cell_types.specs.declared.shape.Shape.{Shape}
use Rattle.rtl_ir.specs.Flat.Driver.{Given, Joined}
use Rattle.rtl_ir.specs.Flat.Place.{Place}
use Rattle.flat_net.specs.declared.net.Join.{Join}
use Rattle.flat_net.specs.declared.net.Logic.{Logic}
use Rattle.flat_net.specs.declared.net.Output.{Output}
use Rattle.flat_net.specs.declared.net.Point.{Point}
use Rattle.flat_net.specs.declared.net.Point.TheVariants.{Constant, At}
use Rattle.flat_net.specs.declared.net.StoreBit.{StoreBit}
use Rattle.flat_net.specs.declared.net.StorePins.{StorePins}
use Rattle.flat_net.specs.Parts.{given_row, inputs_of, join_row, output_row, store_row}
use Rattle.flat_net.specs.Points.{place_at, AreApart, point_of, points_of, pins_of}
use Rattle.flat_net.specs.Within.{ArePinsWithin, ArePointsWithin, IsLogicWithin, IsPointWithin, IsStoreWithin}
use Rattle.net_model.specs.Order.{next_bit_of}
use Rattle.net_model.specs.Run.{Time}
use Rattle.net_model.specs.Valuation.{passed_of, read, read_all, read_words}
use Rattle.net_model.specs.Value as value
use Rattle.net_model.specs.Value.{value_of, worked_of}
use Rattle.net_model.proofs.Members.{map-map}
use Rattle.sim_eval.specs.declared.cell.Worked.{Worked}
use Rattle.sim_eval.specs.declared.moment.Moment.{Moment}
use Rattle.sim_eval.specs.declared.moment.Moment.TheVariants.{Start, Step}
use Rattle.sim_eval.specs.Advance.{Advances, Takes, output_fact}
use Rattle.sim_eval.specs.Moment.{IsBoard, time_of}
use Rattle.sim_eval.specs.Numbers.{gains, given_of, kept_of, number_inputs, number_pins, number_read, number_word, put_of, worked_bit, IsWorked}
use Rattle.sim_eval.specs.Shown.{shown}
use Rattle.sim_eval.proofs.Tables.{found_at}
use Rattle.sim_eval.proofs.Taking.{advances_by, advances_put, fact_of}

-- the values of a board may be others of the same bits
pub board_on : (ps : List Place) (moment : Moment) (a b : List Bit) → IsBoard ps moment a → length b ≡ length a → IsBoard ps moment b
board_on ps moment a b h e = record { apart = h.apart; before = h.before; now = h.now ∙ sym e }

module _ (ps : List Place) (values : List Bit) (apart : AreApart ps) (same : length ps ≡ length values) where
  pub read_same : (p : Point) → IsPointWithin (length ps) p → read (shown ps values) (point_of ps p) ≡ number_read values p
  read_same (Constant b) h = refl
  read_same (At n) h = found_at X ps values n apart same h

  pub word_same : (points : List Point) → ArePointsWithin (length ps) points → read_all (shown ps values) (points_of ps points) ≡ number_word values points
  word_same [] h = refl
  word_same (p ∷ points) h = λ i. read_same p h.0 i ∷ word_same points h.1 i

  pub inputs_same : (c : Logic) → IsLogicWithin (length ps) c → read_words (shown ps values) (inputs_of ps c) ≡ number_inputs values c
  inputs_same c h = λ i. word_same c.a h.a i ∷ word_same c.b h.b i ∷ word_same c.s h.s i ∷ []

  pins_same : (pins : StorePins) (n : ℕ) → ArePinsWithin (length ps) pins → n < length ps → value.pins_of (shown ps values) (pins_of ps pins) (place_at ps n) ≡ number_pins values pins n
  pins_same pins n h l = λ i. record {
    clk = read_same pins.clk h.clk i;
    en = read_same pins.en h.en i;
    arst = read_same pins.arst h.arst i;
    srst = read_same pins.srst h.srst i;
    aload = read_same pins.aload h.aload i;
    ad = read_same pins.ad h.ad i;
    set = read_same pins.set h.set i;
    clr = read_same pins.clr h.clr i;
    d = read_same pins.d h.d i;
    q = found_at X ps values n apart same l i;
  }

pub given_same : (ps : List Place) (moment : Moment) (at : ℕ) (values : List Bit) → value_of (Given at) (time_of ps moment) (shown ps values) ≡ given_of moment at
given_same ps Start at values = refl
given_same ps (Step before inputs first order) at values = refl

joined_same : (ps : List Place) (t : Time Place) (j : Join) (values : List Bit) → value_of (Joined (point_of ps j.from)) t (shown ps values) ≡ passed_of (read (shown ps values) (point_of ps j.from))
joined_same ps t j values = refl

pub kept_same : (ps : List Place) (moment : Moment) (shape : Shape) (b : StoreBit) (values : List Bit) → IsBoard ps moment values → IsStoreWithin (length ps) b → value_of (store_row ps shape b).driver (time_of ps moment) (shown ps values) ≡ kept_of moment shape b values
kept_same ps Start shape b values h l = refl
kept_same ps (Step before inputs first order) shape b values h l =
    λ i. next_bit_of (record { first = first; order = order }) shape b.at (pins_same ps before.now h.apart h.before b.pins b.number l.1 l.0 i) (pins_same ps values h.apart h.now b.pins b.number l.1 l.0 i)

-- a bit that the input vector drives
pub advances_given : (ps : List Place) (moment : Moment) (o : Output) (old new : List Bit) (changed : Bool) (bit : Bit) → IsBoard ps moment old → o.number < length ps → bit ≡ given_of moment o.at → new ≡ put_of old o.number bit → changed ≡ gains old o.number bit → Advances ps (time_of ps moment) (given_row ps o ∷ []) old new changed
advances_given ps moment o old new changed bit h l is e f =
    subst (λ z. Advances ps (time_of ps moment) (given_row ps o ∷ []) old new z) (sym f) (subst (λ z. Advances ps (time_of ps moment) (given_row ps o ∷ []) old z (gains old o.number bit)) (sym e) (advances_put ps (time_of ps moment) (given_row ps o) old o.number bit h.apart h.now l refl (given_same ps moment o.at old ∙ sym is)))

-- a bit that a connection drives
pub advances_joined : (ps : List Place) (t : Time Place) (j : Join) (old new : List Bit) (changed : Bool) (bit : Bit) → AreApart ps → length ps ≡ length old → j.to < length ps → IsPointWithin (length ps) j.from → bit ≡ passed_of (number_read old j.from) → new ≡ put_of old j.to bit → changed ≡ gains old j.to bit → Advances ps t (join_row ps j ∷ []) old new changed
advances_joined ps t j old new changed bit apart same l within is e f =
    subst (λ z. Advances ps t (join_row ps j ∷ []) old new z) (sym f) (subst (λ z. Advances ps t (join_row ps j ∷ []) old z (gains old j.to bit)) (sym e) (advances_put ps t (join_row ps j) old j.to bit apart same l refl (joined_same ps t j old ∙ (ap passed_of (read_same ps old apart same j.from within) ∙ sym is))))

-- a bit that a storage cell keeps
pub advances_kept : (ps : List Place) (moment : Moment) (shape : Shape) (b : StoreBit) (old new : List Bit) (changed : Bool) (bit : Bit) → IsBoard ps moment old → IsStoreWithin (length ps) b → bit ≡ kept_of moment shape b old → new ≡ put_of old b.number bit → changed ≡ gains old b.number bit → Advances ps (time_of ps moment) (store_row ps shape b ∷ []) old new changed
advances_kept ps moment shape b old new changed bit h within is e f =
    subst (λ z. Advances ps (time_of ps moment) (store_row ps shape b ∷ []) old new z) (sym f) (subst (λ z. Advances ps (time_of ps moment) (store_row ps shape b ∷ []) old z (gains old b.number bit)) (sym e) (advances_put ps (time_of ps moment) (store_row ps shape b) old b.number bit h.apart h.now within.0 refl (kept_same ps moment shape b old h within ∙ sym is)))

-- the bits that a combinational cell drives
pub advances_worked : (ps : List Place) (t : Time Place) (c : Logic) (worked : Worked) (old new : List Bit) (changed : Bool) → AreApart ps → length ps ≡ length old → IsLogicWithin (length ps) c → IsWorked c old worked → Takes ps (map (output_fact ps worked) c.outputs) old new changed → Advances ps t (map (output_row ps c.shape (inputs_of ps c)) c.outputs) old new changed
advances_worked ps t c worked old new changed apart same within is h =
    advances_by ps t (map (output_row ps c.shape (inputs_of ps c)) c.outputs) old new changed (subst (λ z. Takes ps z old new changed) (sym facts) h)
  where
    bit_same : (o : Output) → worked_of c.shape.kind c.shape (read_words (shown ps old) (inputs_of ps c)) o.at ≡ worked_bit worked o.at
    bit_same o = ap (λ z. worked_of c.shape.kind c.shape z o.at) (inputs_same ps old apart same c within) ∙ sym (is o.at)

    facts : map (fact_of t (shown ps old)) (map (output_row ps c.shape (inputs_of ps c)) c.outputs) ≡ map (output_fact ps worked) c.outputs
    facts =
        map-map (output_row ps c.shape (inputs_of ps c)) (fact_of t (shown ps old)) c.outputs ∙ (λ i. map (λ (o : Output). record { place = place_at ps o.number; value = bit_same o i }) c.outputs)
