-- Drafts stay good where a part of them changes.
use Rattle.std.proofs.Common.{◌≡◌, ℕ, List, [], ◌∷◌, ◌++◌, map, sym, ap, subst, ◌∙◌}
use Rattle.std.specs.List.{All}
use Rattle.std.proofs.lemmas.List.Elements.{All-nil}
use Rattle.rtl_sig.specs.declared.sig.SigBit.{SigBit}
use Rattle.rtl_ir.specs.declared.wire.Wire.{Wire}
use Rattle.rtl_grammar.specs.declared.expect.Expect.TheVariants as expects
use Rattle.rtl_read.specs.declared.attributes.Attributes.{Attributes}
use Rattle.rtl_read.specs.declared.draft.Draft.{Draft}
use Rattle.rtl_read.specs.declared.signal.OpenSignal.{OpenSignal}
use Rattle.rtl_read.specs.Act.Signal.{open_bracket}
use Rattle.rtl_lex.specs.Items.{Seen}
use Rattle.rtl_read.specs.declared.open_module.OpenModule.{OpenModule}
use Rattle.rtl_readable.specs.Readable.{IsSignal}
use Rattle.rtl_write.proofs.Stages.{AreWaiting, IsOpen, IsIn, Out, In, Still, wires_in, Signalled, ThenPair, Stage}

pub out_with : (d : Draft) → Out d → (a : Attributes) → AreWaiting a → Out (record d { attributes = a; name = [] })
out_with d at a w = (record { each = at.0.each; ids = at.0.ids; distinct = at.0.distinct; count = at.0.count; waiting = w }, at.1)

pub in_waiting : (d : Draft) → In d → (a : Attributes) → AreWaiting a → IsIn d.modules d.names d.current a
in_waiting d at a w = record { each = at.each; ids = at.ids; distinct = at.distinct; count = at.count; opened = at.opened; waiting = w }

pub in_with : (d : Draft) → In d → (m : OpenModule) → m.body.id ≡ d.current.body.id → IsOpen m → IsIn d.modules d.names m d.attributes
in_with d at m e is = record {
  each = at.each;
  ids = at.ids ∙ ap (λ (id : List ℕ). map (λ m. m.id) d.modules ++ id ∷ []) (sym e);
  distinct = at.distinct;
  count = at.count;
  opened = is;
  waiting = at.waiting;
}

pub no_braces : (wires : List Wire) (l : List (List SigBit)) → l ≡ [] → All (IsSignal wires) l
no_braces wires l e = subst (All (IsSignal wires)) (sym e) (All-nil (IsSignal wires))

-- a signal is read, and then what holds of each draft with its bits
pub signal_stage : (then_ : Draft → Type 0) (d : Draft) → Still d → ((s : OpenSignal) → Signalled (record d { signal = s }) → then_ (record d { signal = s })) → Stage expects.Signal then_ d
signal_stage then_ d at on = (at.0, no_braces (wires_in d) d.signal.braces at.1, λ s is e. on s (at.0, is, e ∙ at.1))

-- .. and a pair of signals
pub pair_stage : (then_ : Draft → Type 0) (d : Draft) → Still d → ThenPair then_ d → Stage expects.Signal (Stage expects.BehindLeft then_) d
pair_stage then_ d at on = signal_stage (Stage expects.BehindLeft then_) d at (λ s is. (is, on))

-- a bracket behind a signal
pub bracket_stage : (role : Draft → Type 0) (i : Seen) (d : Draft) → Signalled d → ((s : OpenSignal) → Signalled (record d { signal = s }) → role (record d { signal = s })) → Stage expects.Index role (open_bracket i d)
bracket_stage role i d at on = (at.0, record { part = at.1.part; braces = at.1.braces }, λ s is e. on s (at.0, is, e ∙ at.2))
