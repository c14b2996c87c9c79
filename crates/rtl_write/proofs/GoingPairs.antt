-- Reading goes over pairs of signals: connections, assigns and updates.
use Rattle.std.proofs.Common.{◌≡◌, ℕ, ◌<◌, List, [], ◌∷◌, ◌++◌, length, map, Ok, refl, ap, ◌∙◌, arith}
use Rattle.std.specs.List.{All}
use Rattle.rtl_lex.specs.Sorts.{word_sort, module_word, option_word, process_word, event_word, mark_sort}
use Rattle.rtl_lex.specs.Items.{Seen}
use Rattle.rtl_sig.specs.Names.{AreDistinct}
use Rattle.rtl_sig.specs.declared.sig.SigBit.{SigBit}
use Rattle.rtl_ir.specs.declared.wire.Wire.{Wire}
use Rattle.rtl_ir.specs.declared.module.Link.{Link}
use Rattle.rtl_ir.specs.declared.module.Module.{Module}
use Rattle.rtl_grammar.specs.declared.expect.Expect.{Expect}
use Rattle.rtl_grammar.specs.declared.expect.Expect.TheVariants as expects
use Rattle.rtl_read.specs.declared.draft.Draft.{Draft}
use Rattle.rtl_read.specs.declared.open_module.OpenModule.{OpenModule}
use Rattle.rtl_read.specs.declared.signal.OpenSignal.{OpenSignal}
use Rattle.rtl_read.specs.Signal.{no_signal, some_bits}
use Rattle.rtl_read.specs.Meaning.Module.{with_link}
use Rattle.rtl_read.specs.Act.Pair.{close_pair}
use Rattle.rtl_readable.specs.Readable.{IsWire, IsLink}
use Rattle.rtl_write.proofs.Printed.{Printed, EndLine}
use Rattle.rtl_write.proofs.Going.{Goes, goes_none, goes_on, goes_line, okay}
use Rattle.rtl_write.proofs.GoingSignals.{Begins, TakesSlices, IsOver, with_signal, goes_signal}
use Rattle.rtl_write.proofs.GoingCells.{begins_signal}
use Rattle.rtl_write.proofs.GoingWires.{at}
use Rattle.rtl_write.proofs.Tokens as tokens

-- a signal with a bit
pub some_bits_are : (sig : List SigBit) (i : Seen) → 0 < length sig → some_bits sig i ≡ Ok sig
some_bits_are [] i lt = absurd (omega arith)
some_bits_are (b ∷ bs) i lt = refl

slices_left : TakesSlices expects.BehindLeft
unfolding mark_sort
slices_left = record { opens = refl; brackets = λ d place. refl }

slices_right : TakesSlices expects.BehindRight
unfolding mark_sort
slices_right = record { opens = refl; brackets = λ d place. refl }

-- the right signal begins where the left one ends
begins_right : (d : Draft) (s : OpenSignal) → Begins expects.BehindLeft (expects.BehindRight ∷ []) (with_signal s d) (record d { left = s.part; signal = no_signal })
unfolding mark_sort
begins_right d s = record { name = refl; value = refl; brace = refl; begins_name = λ text place. refl; begins_value = λ text place. refl; begins_brace = λ place. refl }

module _ {wires : List Wire} (all : All IsWire wires) (distinct : AreDistinct (map (λ w. w.name) wires)) where
  -- both signals, and the end of the line, which closes the pair
  pub goes_pair : {qs : List Printed} {stack back : List Expect} {d e : Draft} (l : Link) (next : Draft) → IsOver wires d → d.signal.braces ≡ [] → IsLink wires l
      → ((left : List SigBit) (s : OpenSignal) → left ≡ l.left → s.part ≡ l.right → close_pair (record d { left = left; signal = s }) ≡ next)
      → Goes qs stack next back e → Goes (tokens.signal wires l.left ++ (tokens.signal wires l.right ++ EndLine ∷ qs)) (expects.Signal ∷ expects.BehindLeft ∷ stack) d back e
  goes_pair {d = d} l next over none is closes more =
      goes_signal all distinct l.left is.left none (begins_signal d) slices_left over refl (λ s part braces.
      goes_signal all distinct l.right is.right refl (begins_right d s) slices_right (record { wires_are = over.wires_are; names_are = over.names_are }) refl (λ t right others.
      goes_line [] next refl (λ text place. ap okay (closes s.part t part right)) more))

  -- a connection
  pub goes_link : (modules : List Module) (names : List (List ℕ)) (current : OpenModule) (roles : List Expect) (l : Link) → IsOver wires (at modules names current) → IsLink wires l
      → Goes (tokens.link wires l) (expects.Body ∷ roles) (at modules names current) (expects.Body ∷ roles) (at modules names (with_link l current))
  unfolding word_sort module_word option_word process_word event_word
  goes_link modules names current roles l over is =
      goes_on (expects.Signal ∷ expects.BehindLeft ∷ expects.Body ∷ []) (λ p. at modules names current) refl (λ p. refl) (λ p.
      goes_pair l (at modules names (with_link l current)) over refl is
      (λ left s e f. ap (λ (x : List SigBit). at modules names (with_link (record { left = x; right = s.part }) current)) e ∙ ap (λ (x : List SigBit). at modules names (with_link (record { left = l.left; right = x }) current)) f)
      goes_none)
