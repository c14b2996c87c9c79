-- The last item of a text ends it or has a fault, and no other does.
use Rattle.std.proofs.Common.{◌≡◌, ℕ, ◌-◌, List, [], ◌∷◌, length, drop, Option, Some, None, Result, Ok, Err, Bool, true, false, refl, ap, ◌∙◌, inl, inr}
use Rattle.std.specs.Prelude.{◌==◌, ◌&&◌, if◌then◌else◌, unwrap_or, codes}
use Rattle.std.specs.Option.{option_or}
use Rattle.std.specs.Str.{bytes_eq}
use Rattle.rtl_lex.specs.declared.place.Place.{Place}
use Rattle.rtl_lex.specs.declared.sort.Sort.{Sort}
use Rattle.rtl_lex.specs.declared.sort.Sort.TheVariants as sorts
use Rattle.rtl_lex.specs.declared.token.TokenKind.{TokenKind}
use Rattle.rtl_lex.specs.declared.token.TokenKind.TheVariants.{Word, Mark, Id, Value, Int, Chars, Line}
use Rattle.rtl_lex.specs.declared.token.LexFault.{LexFault}
use Rattle.rtl_lex.specs.declared.token.LexFault.TheVariants as lexes
use Rattle.rtl_lex.specs.Tokens.{Piece, token_at}
use Rattle.rtl_lex.specs.Sorts.{module_word, option_word, process_word, event_word, word_sort, mark_sort, sort_of}
use Rattle.rtl_lex.specs.Items.{Seen, is_line, IsFirst, AreItems}
use Rattle.rtl_grammar.proofs.Table.{is_finish}
use Rattle.rtl_grammar.proofs.Reading.{AreClosed}

-- whether a word is the end of the text
abbrev finishes : Option Sort → Bool
finishes None = false
finishes (Some sort) = is_finish sort

no_module_word : (b0 b1 b2 b3 b4 b5 b6 b7 b8 : Bool) → finishes (if b0 then Some sorts.Autoidx else (if b1 then Some sorts.Attribute else (if b2 then Some sorts.Module else (if b3 then Some sorts.Parameter else (if b4 then Some sorts.Wire else (if b5 then Some sorts.Memory else (if b6 then Some sorts.Cell else (if b7 then Some sorts.Connect else (if b8 then Some sorts.End else None))))))))) ≡ false
no_module_word true b1 b2 b3 b4 b5 b6 b7 b8 = refl
no_module_word false true b2 b3 b4 b5 b6 b7 b8 = refl
no_module_word false false true b3 b4 b5 b6 b7 b8 = refl
no_module_word false false false true b4 b5 b6 b7 b8 = refl
no_module_word false false false false true b5 b6 b7 b8 = refl
no_module_word false false false false false true b6 b7 b8 = refl
no_module_word false false false false false false true b7 b8 = refl
no_module_word false false false false false false false true b8 = refl
no_module_word false false false false false false false false true = refl
no_module_word false false false false false false false false false = refl

module_word_is : (text : List ℕ) → finishes (module_word text) ≡ false
unfolding module_word
module_word_is text = no_module_word (bytes_eq text (codes "autoidx")) (bytes_eq text (codes "attribute")) (bytes_eq text (codes "module")) (bytes_eq text (codes "parameter")) (bytes_eq text (codes "wire")) (bytes_eq text (codes "memory")) (bytes_eq text (codes "cell")) (bytes_eq text (codes "connect")) (bytes_eq text (codes "end"))

no_option_word : (b0 b1 b2 b3 b4 b5 b6 b7 : Bool) → finishes (if b0 then Some sorts.Width else (if b1 then Some sorts.Offset else (if b2 then Some sorts.Size else (if b3 then Some sorts.Input else (if b4 then Some sorts.Output else (if b5 then Some sorts.Inout else (if b6 then Some sorts.Upto else (if b7 then Some sorts.Signed else None)))))))) ≡ false
no_option_word true b1 b2 b3 b4 b5 b6 b7 = refl
no_option_word false true b2 b3 b4 b5 b6 b7 = refl
no_option_word false false true b3 b4 b5 b6 b7 = refl
no_option_word false false false true b4 b5 b6 b7 = refl
no_option_word false false false false true b5 b6 b7 = refl
no_option_word false false false false false true b6 b7 = refl
no_option_word false false false false false false true b7 = refl
no_option_word false false false false false false false true = refl
no_option_word false false false false false false false false = refl

option_word_is : (text : List ℕ) → finishes (option_word text) ≡ false
unfolding option_word
option_word_is text = no_option_word (bytes_eq text (codes "width")) (bytes_eq text (codes "offset")) (bytes_eq text (codes "size")) (bytes_eq text (codes "input")) (bytes_eq text (codes "output")) (bytes_eq text (codes "inout")) (bytes_eq text (codes "upto")) (bytes_eq text (codes "signed"))

no_process_word : (b0 b1 b2 b3 b4 b5 b6 : Bool) → finishes (if b0 then Some sorts.Process else (if b1 then Some sorts.Assign else (if b2 then Some sorts.Switch else (if b3 then Some sorts.Case else (if b4 then Some sorts.Sync else (if b5 then Some sorts.Update else (if b6 then Some sorts.Memwr else None))))))) ≡ false
no_process_word true b1 b2 b3 b4 b5 b6 = refl
no_process_word false true b2 b3 b4 b5 b6 = refl
no_process_word false false true b3 b4 b5 b6 = refl
no_process_word false false false true b4 b5 b6 = refl
no_process_word false false false false true b5 b6 = refl
no_process_word false false false false false true b6 = refl
no_process_word false false false false false false true = refl
no_process_word false false false false false false false = refl

process_word_is : (text : List ℕ) → finishes (process_word text) ≡ false
unfolding process_word
process_word_is text = no_process_word (bytes_eq text (codes "process")) (bytes_eq text (codes "assign")) (bytes_eq text (codes "switch")) (bytes_eq text (codes "case")) (bytes_eq text (codes "sync")) (bytes_eq text (codes "update")) (bytes_eq text (codes "memwr"))

no_event_word : (b0 b1 b2 b3 b4 b5 b6 b7 : Bool) → finishes (if b0 then Some sorts.Low else (if b1 then Some sorts.High else (if b2 then Some sorts.Posedge else (if b3 then Some sorts.Negedge else (if b4 then Some sorts.Edge else (if b5 then Some sorts.Global else (if b6 then Some sorts.Init else (if b7 then Some sorts.Always else None)))))))) ≡ false
no_event_word true b1 b2 b3 b4 b5 b6 b7 = refl
no_event_word false true b2 b3 b4 b5 b6 b7 = refl
no_event_word false false true b3 b4 b5 b6 b7 = refl
no_event_word false false false true b4 b5 b6 b7 = refl
no_event_word false false false false true b5 b6 b7 = refl
no_event_word false false false false false true b6 b7 = refl
no_event_word false false false false false false true b7 = refl
no_event_word false false false false false false false true = refl
no_event_word false false false false false false false false = refl

event_word_is : (text : List ℕ) → finishes (event_word text) ≡ false
unfolding event_word
event_word_is text = no_event_word (bytes_eq text (codes "low")) (bytes_eq text (codes "high")) (bytes_eq text (codes "posedge")) (bytes_eq text (codes "negedge")) (bytes_eq text (codes "edge")) (bytes_eq text (codes "global")) (bytes_eq text (codes "init")) (bytes_eq text (codes "always"))

no_mark : (b0 b1 b2 b3 b4 : Bool) → is_finish (if b0 then sorts.OpenIndex else (if b1 then sorts.CloseIndex else (if b2 then sorts.OpenBrace else (if b3 then sorts.CloseBrace else (if b4 then sorts.Colon else sorts.Comma))))) ≡ false
no_mark true b1 b2 b3 b4 = refl
no_mark false true b2 b3 b4 = refl
no_mark false false true b3 b4 = refl
no_mark false false false true b4 = refl
no_mark false false false false true = refl
no_mark false false false false false = refl

either : (a b : Option Sort) → finishes a ≡ false → finishes b ≡ false → finishes (option_or a b) ≡ false
either None b e f = f
either (Some sort) b e f = e

some_word : (o : Option Sort) → finishes o ≡ false → is_finish (unwrap_or o sorts.Other) ≡ false
some_word None e = refl
some_word (Some sort) e = e

not_finish : (kind : TokenKind) (text : List ℕ) → is_finish (sort_of kind text) ≡ false
unfolding word_sort mark_sort
not_finish Word text =
    some_word (option_or (module_word text) (option_or (option_word text) (option_or (process_word text) (event_word text))))
    (either (module_word text) (option_or (option_word text) (option_or (process_word text) (event_word text))) (module_word_is text)
    (either (option_word text) (option_or (process_word text) (event_word text)) (option_word_is text)
    (either (process_word text) (event_word text) (process_word_is text) (event_word_is text))))
not_finish Mark text = no_mark (bytes_eq text (codes "[")) (bytes_eq text (codes "]")) (bytes_eq text (codes "{")) (bytes_eq text (codes "}")) (bytes_eq text (codes ":"))
not_finish Id text = refl
not_finish Value text = refl
not_finish Int text = refl
not_finish Chars text = refl
not_finish Line text = refl

closed_one : (i : Seen) (others : List Seen) (bytes : List ℕ) (from : Place) (ended : Bool) (read : Result Piece LexFault) → ((t : Piece) → AreItems others (drop (t.next.at - from.at) bytes) t.next (is_line t.kind) → AreClosed others) → IsFirst ended read from i others (λ t. AreItems others (drop (t.next.at - from.at) bytes) t.next (is_line t.kind)) → AreClosed (i ∷ others)
closed_one i others bytes from true read on f = inl (f.1, inl (ap (λ (x : Seen). x.sort) f.0))
closed_one i others bytes from false (Err (lexes.Lex p)) on f = inl (f.1, inr (inl (ap (λ (x : Seen). x.sort) f.0)))
closed_one i others bytes from false (Err (lexes.Int p)) on f = inl (f.1, inr (inr (ap (λ (x : Seen). x.sort) f.0, ap (λ (x : Seen). x.number) f.0)))
closed_one i others bytes from false (Ok t) on f = inr (ap (λ (x : Seen). is_finish x.sort) f.0 ∙ not_finish t.kind t.text, on t f.1)

-- the last item of a text ends it or has a fault, and no other does
pub are_closed : (items : List Seen) (bytes : List ℕ) (from : Place) (line : Bool) → AreItems items bytes from line → AreClosed items
are_closed [] bytes from line a = absurd a
are_closed (i ∷ others) bytes from line a = closed_one i others bytes from (line && length bytes == 0) (token_at bytes from) (λ t rest. are_closed others (drop (t.next.at - from.at) bytes) t.next (is_line t.kind) rest) a
