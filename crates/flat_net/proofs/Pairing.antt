-- Rules in pairs.
use Rattle.std.proofs.Common.{◌≡◌, Bool, if◌then◌else◌, List, map, Option, Some, None, refl, sym, ◌∙◌, ap}
use Rattle.std.specs.Prelude.{option_map}
use Rattle.rtl_bits.specs.declared.bit.Bit.{Bit}
use Rattle.rtl_sig.specs.declared.sig.SigBit.{SigBit}
use Rattle.rtl_sig.specs.declared.sig.WireBit.{WireBit}
use Rattle.rtl_ir.specs.declared.module.Module.{Module}
use Rattle.rtl_ir.specs.declared.process.SyncRule.{SyncRule}
use Rattle.rtl_ir.specs.declared.wire.Wire.{Wire}
use Rattle.rtl_ir.specs.Faults.TwoEdges.{EdgeBit, edge_bit, is_tested}
use Rattle.rtl_ir.specs.Flat.Driver.{Driven}
use Rattle.rtl_ir.specs.Flat.Place.{Path}
use Rattle.rtl_ir.specs.Flat.Process.{edge_trigger, level_trigger, loaded_rows, no_modules, raced_row, raced_rows, two_rules_rows, pair_by}
use Rattle.rtl_ir.specs.Follow.{all_joins}
use Rattle.rtl_ir.specs.declared.follow.Join.{Join}
use Rattle.rtl_ir.specs.Tree.{CaseView}
use Rattle.rtl_ir.specs.declared.trigger.Trigger.{Trigger}
use Rattle.flat_net.specs.declared.rules.Paired.{Paired}
use Rattle.flat_net.specs.declared.rules.Paired.TheVariants.{First, Second, Edges}
use Rattle.flat_net.specs.Pairs.{pairing_of}
use Rattle.rtl_ir.specs.Triggers.{trigger_of}

module _ (start : SigBit → Bit) (p : Path) (wires : List Wire) (m : Module) (root : CaseView) (bits : List WireBit) where
  -- the edge that is tested is that of the reset
  pub race_rows : (js : List Join) (oa ob : Option EdgeBit) (a b : EdgeBit) → Some a ≡ oa → Some b ≡ ob → (t : Bool) → is_tested no_modules m root a ≡ t
      → (if t then map (raced_row start p wires m root bits b a) js else map (raced_row start p wires m root bits a b) js) ≡ raced_rows start p wires m root bits js oa ob
  race_rows js oa ob a b e f t h = (λ i. if sym h i then map (raced_row start p wires m root bits b a) js else map (raced_row start p wires m root bits a b) js) ∙ (λ i. raced_rows start p wires m root bits js (e i) (f i))

  -- two rules as they stand together
  abbrev pub paired_rows : SyncRule → SyncRule → Paired → List Driven
  paired_rows a b (First e l) = loaded_rows start p wires (trigger_of e) (all_joins a.updates) (trigger_of l) (all_joins b.updates)
  paired_rows a b (Second e l) = loaded_rows start p wires (trigger_of e) (all_joins b.updates) (trigger_of l) (all_joins a.updates)
  paired_rows a b Edges = raced_rows start p wires m root bits (all_joins a.updates) (edge_bit a.event) (edge_bit b.event)

  pub paired : (a b : SyncRule) (ea eb la lb : Option Trigger)
      → paired_rows a b (pairing_of ea eb la lb) ≡ two_rules_rows start p wires m root bits (pair_by a b (option_map trigger_of ea) (option_map trigger_of eb) (option_map trigger_of la) (option_map trigger_of lb))
  paired a b (Some e) eb la (Some l) = refl
  paired a b None None la lb = refl
  paired a b None (Some e) None lb = refl
  paired a b None (Some e) (Some l) lb = refl
  paired a b (Some x) None la None = refl
  paired a b (Some x) (Some e) None None = refl
  paired a b (Some x) (Some e) (Some l) None = refl

  -- the rows of a pair, by what its rules are found to be
  pub as_paired : (a b : SyncRule) (q : Paired) (ea eb la lb : Option Trigger) → q ≡ pairing_of ea eb la lb → option_map trigger_of ea ≡ edge_trigger a.event → option_map trigger_of eb ≡ edge_trigger b.event
      → option_map trigger_of la ≡ level_trigger a.event → option_map trigger_of lb ≡ level_trigger b.event
      → paired_rows a b q ≡ two_rules_rows start p wires m root bits (pair_by a b (edge_trigger a.event) (edge_trigger b.event) (level_trigger a.event) (level_trigger b.event))
  as_paired a b q ea eb la lb e f g h k = ap (paired_rows a b) e ∙ paired a b ea eb la lb ∙ (λ i. two_rules_rows start p wires m root bits (pair_by a b (f i) (g i) (h i) (k i)))
