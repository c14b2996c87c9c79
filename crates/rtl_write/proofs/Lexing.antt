-- What is printed has the tokens that were printed.
use Rattle.std.proofs.Common.{◌≡◌, ℕ, zero, suc, ◌+◌, ◌-◌, ◌<◌, List, [], ◌∷◌, ◌++◌, length, take, drop, Some, Result, Ok, Err, Bool, true, false, refl, sym, ap, subst, ◌∙◌, append_assoc, arith, length-append}
use Rattle.std.specs.Prelude.{◌==◌, ◌&&◌, ◌||◌, replicate, if◌then◌else◌, slice_index}
use Rattle.std.proofs.lemmas.List.{take_at, drop_at, length-replicate, take-append-drop}
use Rattle.std.proofs.lemmas.Bool.Decides.{nat_tests}
use Rattle.rtl_lex.specs.declared.place.Place.{Place}
use Rattle.rtl_lex.specs.declared.token.LexFault.{LexFault}
use Rattle.rtl_lex.specs.declared.token.LexFault.TheVariants as faults
use Rattle.rtl_lex.specs.declared.token.TokenKind.{TokenKind}
use Rattle.rtl_lex.specs.declared.token.TokenKind.TheVariants.{Mark, Int, Line}
use Rattle.rtl_lex.specs.declared.sort.Sort.TheVariants.{Finish}
use Rattle.rtl_lex.specs.Bytes.{is_blank, is_end}
use Rattle.rtl_lex.specs.Gaps.{in_gap, gap, note_after}
use Rattle.rtl_lex.specs.Place.{behind, moved}
use Rattle.rtl_lex.specs.Tokens.{Piece as Found, token_at, begun, made, front, is_over}
use Rattle.rtl_lex.specs.Items.{Seen, item_of, last_item, is_line, IsFirst, AreItems}
use Rattle.rtl_lex.proofs.Places.{moved-near}
use Rattle.rtl_write.proofs.Printed.{Printed, Piece, EndLine, spelled, IsToken, Follows, stops, AreLines}

-- a token at a place, and its item
abbrev pub found_at : TokenKind → List ℕ → Place → Found
found_at kind text place = record { kind = kind; text = text; place = place; next = moved place text }

abbrev pub seen_at : TokenKind → List ℕ → Place → Seen
seen_at kind text place = item_of (found_at kind text place)

-- the blanks that stand first
abbrev pub lead : List Printed → ℕ
lead [] = 0
lead (EndLine ∷ ps) = 0
lead (Piece n kind text ∷ ps) = n

-- the items of what is printed from a place on
abbrev pub items_at : Place → List Printed → List Seen
items_at from [] = last_item Finish from ∷ []
items_at from (EndLine ∷ ps) = seen_at Line (10 ∷ replicate (lead ps) 32) from ∷ items_at (behind from 10) ps
items_at from (Piece n kind text ∷ ps) = seen_at kind text (moved from (replicate n 32)) ∷ items_at (moved (moved from (replicate n 32)) text) ps

-- ---- one token

blanks_len : (n : ℕ) → length (replicate {A = ℕ} n 32) ≡ n
blanks_len n = length-replicate {A = ℕ} n 32

-- blanks, and then a byte that is in no gap
blanks_gap : (n : ℕ) (over : Bool) (rest : List ℕ) → gap over false rest ≡ 0 → gap over false (replicate n 32 ++ rest) ≡ n
blanks_gap zero over rest e = e
blanks_gap (suc n) over rest e = omega (arith, blanks_gap n over rest e)

no_gap : (over line other : Bool) → (if line then true else other) ≡ false → (if line then over else other) ≡ false
no_gap over true other e = absurd cc
no_gap over false other e = e

-- the bytes of a token begin with no gap
starts_gap : (over : Bool) (text following : List ℕ) → 0 < length text → in_gap true false (slice_index text 0) ≡ false → gap over false (text ++ following) ≡ 0
starts_gap over [] following lt e = absurd (omega arith)
starts_gap over (b ∷ bs) following lt e =
    ap (λ (c : Bool). if c then gap over (note_after false b) (bs ++ following) + 1 else 0) (no_gap over (is_end b) (is_blank b || b == 35) e)

made_is : (kind : TokenKind) (text : List ℕ) (place : Place) → is_over kind text ≡ false → made kind text place ≡ Ok (found_at kind text place)
made_is kind text place e = ap (λ (b : Bool). if b then Err (faults.Int place) else Ok (found_at kind text place)) e

-- a token behind blanks
pub token_is : (n : ℕ) (kind : TokenKind) (text following : List ℕ) (at : Place) → 0 < length text → in_gap true false (slice_index text 0) ≡ false → is_over kind text ≡ false → front (text ++ following) ≡ Some (kind, length text)
    → token_at (replicate n 32 ++ (text ++ following)) at ≡ Ok (found_at kind text (moved at (replicate n 32)))
unfolding token_at
token_is n kind text following at some starts small whole =
    let bytes = replicate n 32 ++ (text ++ following) in
    let skip : gap false false bytes ≡ n = blanks_gap n false (text ++ following) (starts_gap false text following some starts) in
    let dropped : drop n bytes ≡ text ++ following = drop_at (replicate n 32) (text ++ following) n (blanks_len n) in
    let taken : take n bytes ≡ replicate n 32 = take_at (replicate n 32) (text ++ following) n (blanks_len n) in
    let same : take (length text) (text ++ following) ≡ text = take_at text following (length text) refl in
    let place = moved at (replicate n 32) in
    ap (λ (k : ℕ). begun (drop k bytes) (moved at (take k bytes)) (front (drop k bytes))) skip
    ∙ ap (λ (d : List ℕ). begun d (moved at (take n bytes)) (front d)) dropped
    ∙ ap (λ (t : List ℕ). begun (text ++ following) (moved at t) (front (text ++ following))) taken
    ∙ ap (begun (text ++ following) place) whole
    ∙ ap (λ (t : List ℕ). made kind t place) same
    ∙ made_is kind text place small

-- the blanks at the front of what is printed, up to the first byte that is in no gap
lead_gap : (ps : List Printed) → AreLines true ps → gap true false (spelled ps) ≡ lead ps
lead_gap [] f = refl
lead_gap (EndLine ∷ ps) f = absurd (cc f.0)
lead_gap (Piece n kind text ∷ ps) f =
    ap (gap true false) (append_assoc (replicate n 32) text (spelled ps)) ∙ blanks_gap n true (text ++ spelled ps) (starts_gap true text (spelled ps) f.0.some f.0.starts)

lead_front : (ps : List Printed) → take (lead ps) (spelled ps) ≡ replicate (lead ps) 32
lead_front [] = refl
lead_front (EndLine ∷ ps) = refl
lead_front (Piece n kind text ∷ ps) = ap (take n) (append_assoc (replicate n 32) text (spelled ps)) ∙ take_at (replicate n 32) (text ++ spelled ps) n (blanks_len n)

-- the end of a line
line_is : (ps : List Printed) (at : Place) → AreLines true ps → token_at (10 ∷ spelled ps) at ≡ Ok (found_at Line (10 ∷ replicate (lead ps) 32) at)
unfolding token_at
line_is ps at f =
    let one : lead ps + 1 ≡ suc (lead ps) = omega arith in
    ap (λ (k : ℕ). made Line (take (k + 1) (10 ∷ spelled ps)) at) (lead_gap ps f)
    ∙ ap (λ (k : ℕ). made Line (take k (10 ∷ spelled ps)) at) one
    ∙ ap (λ (t : List ℕ). made Line (10 ∷ t) at) (lead_front ps)

-- ---- all of them

abbrev Rest : List Seen → List ℕ → Place → Found → Type 0
Rest others bytes from t = AreItems others (drop (t.next.at - from.at) bytes) t.next (is_line t.kind)

not_ended : (line : Bool) (n : ℕ) → 0 < n → (line && n == 0) ≡ false
not_ended true zero lt = absurd (omega arith)
not_ended true (suc n) lt = grind (arith, nat_tests)
not_ended false n lt = refl

-- the first item, where the token is known
put_token : (kind : TokenKind) (text bytes following : List ℕ) (k : ℕ) (at : Place) (line : Bool) (others : List Seen)
    → 0 < length text → bytes ≡ replicate k 32 ++ (text ++ following) → token_at bytes at ≡ Ok (found_at kind text (moved at (replicate k 32)))
    → AreItems others following (moved (moved at (replicate k 32)) text) (is_line kind)
    → AreItems (seen_at kind text (moved at (replicate k 32)) ∷ others) bytes at line
put_token kind text bytes following k at line others some is token more =
    let place = moved at (replicate k 32) in
    let t = found_at kind text place in
    let long : length bytes ≡ k + (length text + length following) = ap length is ∙ length-append (replicate k 32) (text ++ following) ∙ ap (λ (n : ℕ). n + length (text ++ following)) (blanks_len k) ∙ ap (λ (n : ℕ). k + n) (length-append text following) in
    let near1 = moved-near at (replicate k 32) in
    let near2 = moved-near place text in
    let size : t.next.at - at.at ≡ k + length text = omega (arith, near1.at, near2.at, blanks_len k) in
    let front_is : bytes ≡ (replicate k 32 ++ text) ++ following = is ∙ sym (append_assoc (replicate k 32) text following) in
    let front_len : length (replicate k 32 ++ text) ≡ k + length text = length-append (replicate k 32) text ∙ ap (λ (n : ℕ). n + length text) (blanks_len k) in
    let left : drop (t.next.at - at.at) bytes ≡ following = ap (drop (t.next.at - at.at)) front_is ∙ drop_at (replicate k 32 ++ text) following (t.next.at - at.at) (front_len ∙ sym size) in
    let rest : Rest others bytes at t = subst (λ (x : List ℕ). AreItems others x t.next (is_line kind)) (sym left) more in
    let ended : (line && length bytes == 0) ≡ false = not_ended line (length bytes) (omega (arith, long)) in
    subst (λ (r : Result Found LexFault). IsFirst (line && length bytes == 0) r at (seen_at kind text place) others (Rest others bytes at)) (sym token)
    (subst (λ (b : Bool). IsFirst b (Ok t) at (seen_at kind text place) others (Rest others bytes at)) (sym ended) (refl, rest))

-- the bytes at a place are what is printed from a place on, whose first blanks may be passed already
abbrev Stands : List Printed → List ℕ → Place → Place → Type 0
Stands [] bytes at from = (bytes ≡ []) × (at ≡ from)
Stands (EndLine ∷ ps) bytes at from = (bytes ≡ 10 ∷ spelled ps) × (at ≡ from)
Stands (Piece n kind text ∷ ps) bytes at from = (k : ℕ) × (bytes ≡ replicate k 32 ++ (text ++ spelled ps)) × (moved at (replicate k 32) ≡ moved from (replicate n 32))

stands_here : (ps : List Printed) (from : Place) → Stands ps (spelled ps) from from
stands_here [] from = (refl, refl)
stands_here (EndLine ∷ ps) from = (refl, refl)
stands_here (Piece n kind text ∷ ps) from = (n, append_assoc (replicate n 32) text (spelled ps), refl)

stands_behind : (ps : List Printed) (from : Place) → Stands ps (drop (lead ps) (spelled ps)) (moved from (replicate (lead ps) 32)) from
stands_behind [] from = (refl, refl)
stands_behind (EndLine ∷ ps) from = (refl, refl)
stands_behind (Piece n kind text ∷ ps) from = (0, ap (drop n) (append_assoc (replicate n 32) text (spelled ps)) ∙ drop_at (replicate n 32) (text ++ spelled ps) n (blanks_len n), refl)

stops_line : (kind : TokenKind) → stops kind 10 ≡ true
stops_line Mark = refl
stops_line Int = refl
stops_line kind = refl

stops_blank : (kind : TokenKind) → stops kind 32 ≡ true
stops_blank Mark = refl
stops_blank Int = refl
stops_blank kind = refl

-- what follows a token of a line ends it
ends : (kind : TokenKind) (text : List ℕ) (ps : List Printed) → IsToken kind text → Follows kind ps → AreLines false ps → front (text ++ spelled ps) ≡ Some (kind, length text)
ends kind text [] t f l = absurd f
ends kind text (EndLine ∷ ps) t f l = t.whole 10 (spelled ps) (stops_line kind)
ends kind text (Piece zero next [] ∷ ps) t f l = absurd (omega (arith, l.0.some))
ends kind text (Piece zero next (b ∷ bs) ∷ ps) t f l = t.whole b (bs ++ spelled ps) f
ends kind text (Piece (suc n) next bs ∷ ps) t f l = t.whole 32 ((replicate n 32 ++ bs) ++ spelled ps) (stops_blank kind)

-- where nothing is left an end of line stands before
abbrev pub Ended : Bool → List Printed → Type 0
Ended line [] = line ≡ true
Ended line (p ∷ ps) = Unit {0}

ended_line : (ps : List Printed) → Ended true ps
ended_line [] = refl
ended_line (p ∷ ps) = tt

ended_in : (line : Bool) (ps : List Printed) → AreLines false ps → Ended line ps
ended_in line [] f = absurd (cc f)
ended_in line (p ∷ ps) f = tt

stands_items : (start line : Bool) (ps : List Printed) (bytes : List ℕ) (at from : Place) → AreLines start ps → Ended line ps → Stands ps bytes at from → AreItems (items_at from ps) bytes at line
stands_items start line [] bytes at from f ended s =
    subst (λ (b : Place). AreItems (last_item Finish b ∷ []) bytes at line) s.1
    (subst (λ (b : List ℕ). AreItems (last_item Finish at ∷ []) b at line) (sym s.0)
    (subst (λ (b : Bool). AreItems (last_item Finish at ∷ []) [] at b) (sym ended) (refl, refl)))
stands_items start line (EndLine ∷ ps) bytes at from f ended s =
    let text : List ℕ = 10 ∷ replicate (lead ps) 32 in
    let following = drop (lead ps) (spelled ps) in
    let parts : 10 ∷ spelled ps ≡ text ++ following = ap (λ (l : List ℕ). 10 ∷ l) (sym (take-append-drop (lead ps) (spelled ps)) ∙ ap (λ (l : List ℕ). l ++ following) (lead_front ps)) in
    let more : AreItems (items_at (behind from 10) ps) following (moved from text) true = stands_items true true ps following (moved from text) (behind from 10) f.1 (ended_line ps) (stands_behind ps (behind from 10)) in
    let all : AreItems (items_at from (EndLine ∷ ps)) (10 ∷ spelled ps) from line = put_token Line text (10 ∷ spelled ps) following 0 from line (items_at (behind from 10) ps) (omega arith) parts (line_is ps from f.1) more in
    subst (λ (b : List ℕ). AreItems (items_at from (EndLine ∷ ps)) b at line) (sym s.0) (subst (λ (p : Place). AreItems (items_at from (EndLine ∷ ps)) (10 ∷ spelled ps) p line) (sym s.1) all)
stands_items start line (Piece n kind text ∷ ps) bytes at from f ended s =
    let place = moved from (replicate n 32) in
    let others = items_at (moved place text) ps in
    let here : moved at (replicate s.0 32) ≡ place = s.2 in
    let more : AreItems others (spelled ps) (moved place text) (is_line kind) = stands_items false (is_line kind) ps (spelled ps) (moved place text) (moved place text) f.2 (ended_in (is_line kind) ps f.2) (stands_here ps (moved place text)) in
    let token = ap (λ (b : List ℕ). token_at b at) s.1 ∙ token_is s.0 kind text (spelled ps) at f.0.some f.0.starts f.0.small (ends kind text ps f.0 f.1 f.2) in
    subst (λ (p : Place). AreItems (seen_at kind text p ∷ others) bytes at line) here
    (put_token kind text bytes (spelled ps) s.0 at line others f.0.some s.1 token (subst (λ (p : Place). AreItems others (spelled ps) (moved p text) (is_line kind)) (sym here) more))

-- the items of printed lines
pub lines_items : (ps : List Printed) (from : Place) (line : Bool) → AreLines true ps → Ended line ps → AreItems (items_at from ps) (spelled ps) from line
lines_items ps from line f ended = stands_items true line ps (spelled ps) from from f ended (stands_here ps from)
