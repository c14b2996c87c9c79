-- Flip-flops and latches of runs are whole cells that drive the bits of the runs.
use Rattle.std.proofs.Common.{◌≡◌, ◌<◌, ◌≤◌, ℕ, suc, Bool, false, List, [], ◌∷◌, ◌++◌, length, Option, Some, None, inl, inr, refl, ◌∙◌, ap}
use Rattle.std.specs.Prelude.{◌||◌, map}
use Rattle.std.proofs.lemmas.List.{length-map}
use Rattle.cell_types.specs.PinName.{pin_text}
use Rattle.cell_types.specs.declared.kind.CellKind.TheVariants.{Storage}
use Rattle.cell_types.specs.declared.pin_name.PinName.TheVariants.{Q}
use Rattle.cell_types.specs.declared.storage.StorageKind.{StorageKind}
use Rattle.cell_types.specs.declared.storage.StorageKind.TheVariants.{Ff, Dff, Adff, Aldff, Dlatch}
use Rattle.rtl_sig.specs.declared.sig.SigBit.{SigBit}
use Rattle.rtl_sig.specs.declared.sig.SigBit.TheVariants.{Fixed, Wire as OnWire}
use Rattle.rtl_sig.specs.declared.sig.WireBit.{WireBit}
use Rattle.rtl_ir.specs.Constants.{low_bits}
use Rattle.rtl_ir.specs.Faults.Cells.{misfit}
use Rattle.rtl_ir.specs.Flat.Cell.{cell_kind}
use Rattle.rtl_ir.specs.Flat.Process.{Trigger}
use Rattle.rtl_ir.specs.Follow.{source_at}
use Rattle.rtl_ir.specs.declared.follow.Join.{Join}
use Rattle.rtl_ir.specs.Parameters.{signal_at}
use Rattle.rtl_ir.specs.Signals.{has_constant, wire_bits, constant_of}
use Rattle.rtl_ir.specs.declared.cell.Pin.{Pin}
use Rattle.net_model.proofs.Ranges.{JoinIn, OptionIn, each_more, each_none, source_in}
use Rattle.net_model.specs.Proc.Sync.{Class, Plain, Resets, Loads, Run, class_of, left_side, level_side, option_list, polarity_of, right_side}
use Rattle.net_model.specs.Within.{BitIn, Each, SigIn}
use Rattle.map_laws.specs.Expansion.{IsWhole}
use Rattle.build_laws.specs.Rebuilds.{join_bits}
use Rattle.sync_laws.proofs.Parts.{Part, adff_part, aldff_part, dff_part, dlatch_part, edge_part, ff_part, join_class, loaded_part, named}
use Rattle.sync_laws.proofs.Runs.{IsRun}
use Rattle.sync_laws.proofs.StoreFits.{adff_fits, aldff_fits, dff_fits, dlatch_fits, ff_fits}
use Rattle.pass_laws.proofs.CellNumbers.{number_is, number_known}

-- a storage cell on words, in a module of so many wires, under whatever name
pub record IsStorePart (count : ℕ) (q : Part) : Type 0 where
  pub kind : StorageKind
  pub whole : (n : ℕ) → IsWhole count (Storage kind) (named q n)

-- the bits that it drives
abbrev pub part_bits : Part → List WireBit
part_bits q = wire_bits (signal_at q.pins (pin_text Q))

-- both sides of places
pub left_bits : (js : List Join) → wire_bits (left_side js) ≡ join_bits js
left_bits [] = refl
left_bits (j ∷ js) = ap (λ z. j.bit ∷ z) (left_bits js)

no_constant : (js : List Join) → has_constant (left_side js) ≡ false
no_constant [] = refl
no_constant (j ∷ js) = no_constant js

left_length : (js : List Join) → length (left_side js) ≡ length js
left_length js = length-map js (λ (j : Join). OnWire j.bit)

right_length : (js : List Join) → length (right_side js) ≡ length js
right_length js = length-map js (λ (j : Join). j.source)

-- a signal of one bit
pub record IsOneBit (count : ℕ) (l : Trigger) : Type 0 where
  pub one : length l.signal ≡ 1
  pub within : SigIn count l.signal

or_none : (t : Bool) → t ≡ false → (t || false) ≡ false
or_none t e = rw e refl

-- a class that has a source
given_long : (levels js : List Join) (class : Class) → Each (λ (j : Join). join_class levels j ≡ class) js → (class ≡ Plain → ⊥) → length (level_side levels js) ≡ length js
given_long levels [] class h more = refl
given_long levels (j ∷ js) class h more =
    by (source_at levels j.bit) (h j (inl refl)) (given_long levels js class (λ x i. h x (inr i)) more)
  where
    by : (o : Option SigBit) → class_of o ≡ class → length (level_side levels js) ≡ length js → length (option_list o ++ level_side levels js) ≡ length (j ∷ js)
    by None e f = absurd (more (cc))
    by (Some (Fixed c)) e f = ap suc f
    by (Some (OnWire c)) e f = ap suc f

module _ (count : ℕ) where
  left_in : (js : List Join) → Each (JoinIn count) js → SigIn count (left_side js)
  left_in [] h = each_none (BitIn count)
  left_in (j ∷ js) h =
      each_more (BitIn count) (OnWire j.bit) (left_side js) (h j (inl refl)).bit (left_in js (λ x i. h x (inr i)))

  right_in : (js : List Join) → Each (JoinIn count) js → SigIn count (right_side js)
  right_in [] h = each_none (BitIn count)
  right_in (j ∷ js) h =
      each_more (BitIn count) j.source (right_side js) (h j (inl refl)).source (right_in js (λ x i. h x (inr i)))

  given_in : (levels js : List Join) → Each (JoinIn count) levels → SigIn count (level_side levels js)
  given_in levels [] h = each_none (BitIn count)
  given_in levels (j ∷ js) h =
      by (source_at levels j.bit) (source_in count levels j.bit h) (given_in levels js h)
    where
      by : (o : Option SigBit) → OptionIn count o → SigIn count (level_side levels js) → SigIn count (option_list o ++ level_side levels js)
      by None i rest = rest
      by (Some s) i rest = each_more (BitIn count) s (level_side levels js) i rest

  -- pins, one by one
  abbrev AreIn : List Pin → Type 0
  AreIn [] = Unit {0}
  AreIn (pin ∷ pins) = SigIn count pin.sig × AreIn pins

  pins_in : (pins : List Pin) → AreIn pins → Each (λ (pin : Pin). SigIn count pin.sig) pins
  pins_in [] h = each_none (λ (pin : Pin). SigIn count pin.sig)
  pins_in (pin ∷ pins) h = each_more (λ (pin : Pin). SigIn count pin.sig) pin pins h.0 (pins_in pins h.1)

  module _ (js : List Join) (some : 0 < length js) (few : length js ≤ 4096) (inside : Each (JoinIn count) js) where
    d_in : SigIn count (right_side js)
    d_in = right_in js inside

    q_in : SigIn count (left_side js)
    q_in = left_in js inside

    pub ff_whole : IsStorePart count (ff_part js)
    unfolding cell_kind misfit
    ff_whole = record {
      kind = Ff;
      whole = λ n. record {
        own = refl;
        shape = ff_fits (low_bits (length js) 32) (length js) (number_known (length js)) (number_is (length js) few) some few (length (right_side js)) (length (left_side js)) (right_length js) (left_length js);
        output = or_none (has_constant (left_side js)) (no_constant js);
        within = pins_in (ff_part js).pins (d_in, (q_in, tt));
      };
    }

    module _ (l : Trigger) (bit : IsOneBit count l) where
      pub dlatch_whole : IsStorePart count (dlatch_part l js)
      unfolding cell_kind misfit
      dlatch_whole = record {
        kind = Dlatch;
        whole = λ n. record {
          own = refl;
          shape = dlatch_fits (low_bits (length js) 32) (length js) (number_known (length js)) (number_is (length js) few) some few (low_bits (polarity_of l.level) 32) (length l.signal) (length (right_side js)) (length (left_side js)) (number_known (polarity_of l.level)) bit.one (right_length js) (left_length js);
          output = or_none (has_constant (left_side js)) (no_constant js);
          within = pins_in (dlatch_part l js).pins (bit.within, (d_in, (q_in, tt)));
        };
      }

      pub dff_whole : IsStorePart count (dff_part l js)
      unfolding cell_kind misfit
      dff_whole = record {
        kind = Dff;
        whole = λ n. record {
          own = refl;
          shape = dff_fits (low_bits (length js) 32) (length js) (number_known (length js)) (number_is (length js) few) some few (low_bits (polarity_of l.level) 32) (length l.signal) (length (right_side js)) (length (left_side js)) (number_known (polarity_of l.level)) bit.one (right_length js) (left_length js);
          output = or_none (has_constant (left_side js)) (no_constant js);
          within = pins_in (dff_part l js).pins (bit.within, (d_in, (q_in, tt)));
        };
      }

    module _ (e l : Trigger) (clock : IsOneBit count e) (level : IsOneBit count l) (given : List SigBit) (long : length given ≡ length js) (there : SigIn count given) where
      pub adff_whole : IsStorePart count (adff_part e l given js)
      unfolding cell_kind misfit
      adff_whole = record {
        kind = Adff;
        whole = λ n. record {
          own = refl;
          shape = adff_fits (low_bits (length js) 32) (length js) (number_known (length js)) (number_is (length js) few) some few (low_bits (polarity_of e.level) 32) (low_bits (polarity_of l.level) 32) (map constant_of given) (length e.signal) (length l.signal) (length (right_side js)) (length (left_side js)) (number_known (polarity_of e.level)) (number_known (polarity_of l.level)) (length-map given constant_of ∙ long) clock.one level.one (right_length js) (left_length js);
          output = or_none (has_constant (left_side js)) (no_constant js);
          within = pins_in (adff_part e l given js).pins (clock.within, (level.within, (d_in, (q_in, tt))));
        };
      }

      pub aldff_whole : IsStorePart count (aldff_part e l given js)
      unfolding cell_kind misfit
      aldff_whole = record {
        kind = Aldff;
        whole = λ n. record {
          own = refl;
          shape = aldff_fits (low_bits (length js) 32) (length js) (number_known (length js)) (number_is (length js) few) some few (low_bits (polarity_of e.level) 32) (low_bits (polarity_of l.level) 32) (length e.signal) (length l.signal) (length given) (length (right_side js)) (length (left_side js)) (number_known (polarity_of e.level)) (number_known (polarity_of l.level)) clock.one level.one long (right_length js) (left_length js);
          output = or_none (has_constant (left_side js)) (no_constant js);
          within = pins_in (aldff_part e l given js).pins (clock.within, (level.within, (there, (d_in, (q_in, tt)))));
        };
      }

  -- a run of an edge rule
  abbrev pub IsMaybeBit : Option Trigger → Type 0
  IsMaybeBit None = Unit {0}
  IsMaybeBit (Some l) = IsOneBit count l

  pub edge_whole : (e : Trigger) (l : Option Trigger) (levels : List Join) (run : Run) → IsOneBit count e → IsMaybeBit l → Each (JoinIn count) levels → IsRun (join_class levels) run → Each (JoinIn count) run.places → IsStorePart count (edge_part e l levels run)
  edge_whole e None levels run clock level there fit inside = dff_whole run.places fit.some fit.few inside e clock
  edge_whole e (Some l) levels run clock level there fit inside = by run.class refl
    where
      given : List SigBit
      given = level_side levels run.places

      by : (class : Class) → run.class ≡ class → IsStorePart count (loaded_part e l class given run.places)
      by Plain is = dff_whole run.places fit.some fit.few inside e clock
      by Resets is =
          adff_whole run.places fit.some fit.few inside e l clock level given
          (given_long levels run.places run.class fit.alike (λ f. absurd (cc (f, is)))) (given_in levels run.places there)
      by Loads is =
          aldff_whole run.places fit.some fit.few inside e l clock level given
          (given_long levels run.places run.class fit.alike (λ f. absurd (cc (f, is)))) (given_in levels run.places there)

pub edge_bits : (e : Trigger) (l : Option Trigger) (levels : List Join) (run : Run) → part_bits (edge_part e l levels run) ≡ join_bits run.places
edge_bits e None levels run = left_bits run.places
edge_bits e (Some l) levels run = by run.class
  where
    by : (class : Class) → part_bits (loaded_part e l class (level_side levels run.places) run.places) ≡ join_bits run.places
    by Plain = left_bits run.places
    by Resets = left_bits run.places
    by Loads = left_bits run.places
