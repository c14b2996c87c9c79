-- Laws of the items of a text.
use Rattle.std.proofs.Common.{◌≡◌, ℕ, zero, suc, ◌+◌, ◌*◌, ◌-◌, ◌<◌, ◌≤◌, List, [], ◌∷◌, length, drop, length-drop, Option, None, Result, Ok, Err, Bool, true, false, refl, sym, ap, subst, ◌∙◌, arith}
use Rattle.std.specs.Prelude.{◌==◌, ◌&&◌, if◌then◌else◌}
use Rattle.std.proofs.lemmas.List.{drop-drop}
use Rattle.rtl_lex.specs.declared.sort.Sort.TheVariants as sorts
use Rattle.rtl_lex.specs.declared.place.Place.{Place}
use Rattle.rtl_lex.specs.declared.token.LexFault.{LexFault}
use Rattle.rtl_lex.specs.declared.token.LexFault.TheVariants as faults
use Rattle.rtl_lex.specs.declared.token.TokenKind.{TokenKind}
use Rattle.rtl_lex.specs.declared.token.TokenKind.TheVariants.{Line}
use Rattle.rtl_lex.specs.Place.{start}
use Rattle.rtl_lex.specs.Tokens.{Piece, token_at}
use Rattle.rtl_lex.specs.Items.{Seen, item_of, last_item, is_line, IsFirst, AreItems, Leads}
use Rattle.rtl_lex.proofs.TokenLemmas.{IsFurther, token_further}

abbrev Rest : List Seen → List ℕ → Place → Piece → Type 0
Rest others bytes from t = AreItems others (drop (t.next.at - from.at) bytes) t.next (is_line t.kind)

-- what stands first, where it is known how the text goes on
first_is : (i : Seen) (others : List Seen) (bytes : List ℕ) (from : Place) (line ended : Bool) (read : Result Piece LexFault) → (line && length bytes == 0) ≡ ended → token_at bytes from ≡ read → AreItems (i ∷ others) bytes from line → IsFirst ended read from i others (Rest others bytes from)
first_is i others bytes from line ended read e t a =
    subst (λ (b : Bool). IsFirst b read from i others (Rest others bytes from)) e (subst (λ (r : Result Piece LexFault). IsFirst (line && length bytes == 0) r from i others (Rest others bytes from)) t a)

pub at_end : (items : List Seen) (bytes : List ℕ) (from : Place) (line : Bool) → (line && length bytes == 0) ≡ true → AreItems items bytes from line → items ≡ last_item sorts.Finish from ∷ []
at_end [] bytes from line e a = absurd a
at_end (i ∷ others) bytes from line e a =
    let f = first_is i others bytes from line true (token_at bytes from) e refl a in
    cc (f.0, f.1)

pub at_bad : (items : List Seen) (bytes : List ℕ) (from p : Place) (line : Bool) → (line && length bytes == 0) ≡ false → token_at bytes from ≡ Err (faults.Lex p) → AreItems items bytes from line → items ≡ last_item sorts.Bad p ∷ []
at_bad [] bytes from p line e t a = absurd a
at_bad (i ∷ others) bytes from p line e t a =
    let f = first_is i others bytes from line false (Err (faults.Lex p)) e t a in
    cc (f.0, f.1)

pub at_big : (items : List Seen) (bytes : List ℕ) (from p : Place) (line : Bool) → (line && length bytes == 0) ≡ false → token_at bytes from ≡ Err (faults.Int p) → AreItems items bytes from line → items ≡ last_item sorts.Int p ∷ []
at_big [] bytes from p line e t a = absurd a
at_big (i ∷ others) bytes from p line e t a =
    let f = first_is i others bytes from line false (Err (faults.Int p)) e t a in
    cc (f.0, f.1)

pub at_token : (items : List Seen) (bytes : List ℕ) (from : Place) (line : Bool) (t : Piece) → (line && length bytes == 0) ≡ false → token_at bytes from ≡ Ok t → AreItems items bytes from line → (others : List Seen) × (items ≡ item_of t ∷ others) × AreItems others (drop (t.next.at - from.at) bytes) t.next (is_line t.kind)
at_token [] bytes from line t e r a = absurd a
at_token (i ∷ others) bytes from line t e r a =
    let f = first_is i others bytes from line false (Ok t) e r a in
    (others, ap (λ (x : Seen). x ∷ others) f.0, f.1)

drop_forward : (text : List ℕ) (m n : ℕ) → m ≤ n → drop (n - m) (drop m text) ≡ drop n text
drop_forward text m n le =
    let there : m + (n - m) ≡ n = omega arith in
    drop-drop (n - m) m text ∙ ap (λ (k : ℕ). drop k text) there

-- each text has items

at_most_one : (b : Bool) → (if b then 0 else 1) ≤ 1
at_most_one true = omega arith
at_most_one false = omega arith

is_line_of : (kind : TokenKind) → kind ≡ Line → is_line kind ≡ true
is_line_of kind e = ap is_line e

abbrev HasItems : List ℕ → Place → Bool → Type 0
HasItems bytes from line = (items : List Seen) × AreItems items bytes from line

abbrev cost : Bool → ℕ
cost b = if b then 0 else 1

-- the measure falls
falls : (bytes : List ℕ) (from : Place) (line : Bool) (t : Piece) (n : ℕ) → IsFurther bytes from t → (line && length bytes == 0) ≡ false → 2 * length bytes + (if line then 0 else 1) < suc n → 2 * length (drop (t.next.at - from.at) bytes) + (if is_line t.kind then 0 else 1) < n
falls bytes from line t n f e lt = fall line (length bytes) refl e lt
  where
    fall : (b : Bool) (k : ℕ) → length bytes ≡ k → (b && k == 0) ≡ false → 2 * k + (if b then 0 else 1) < suc n → 2 * length (drop (t.next.at - from.at) bytes) + (if is_line t.kind then 0 else 1) < n
    fall true zero z e lt = absurd cc
    fall false zero z e lt =
        let last : (if is_line t.kind then 0 else 1) ≡ 0 = ap cost (is_line_of t.kind (f.line z)) in
        omega (arith, last, length-drop (t.next.at - from.at) bytes)
    fall true (suc k) z e lt = omega (arith, f.some (omega arith), length-drop (t.next.at - from.at) bytes, at_most_one (is_line t.kind), f.after)
    fall false (suc k) z e lt = omega (arith, f.some (omega arith), length-drop (t.next.at - from.at) bytes, at_most_one (is_line t.kind), f.after)

-- items from what stands first
more_of : (bytes : List ℕ) (from : Place) (line ended : Bool) (read : Result Piece LexFault) → (line && length bytes == 0) ≡ ended → token_at bytes from ≡ read → ((t : Piece) → ended ≡ false → read ≡ Ok t → HasItems (drop (t.next.at - from.at) bytes) t.next (is_line t.kind)) → HasItems bytes from line
more_of bytes from line ended read e r on = build ended read e r on
  where
    back : (b : Bool) (x : Result Piece LexFault) (i : Seen) (others : List Seen) → (line && length bytes == 0) ≡ b → token_at bytes from ≡ x → IsFirst b x from i others (Rest others bytes from) → AreItems (i ∷ others) bytes from line
    back b x i others e r f = subst (λ (y : Result Piece LexFault). IsFirst (line && length bytes == 0) y from i others (Rest others bytes from)) (sym r) (subst (λ (c : Bool). IsFirst c x from i others (Rest others bytes from)) (sym e) f)

    build : (b : Bool) (x : Result Piece LexFault) → (line && length bytes == 0) ≡ b → token_at bytes from ≡ x → ((t : Piece) → b ≡ false → x ≡ Ok t → HasItems (drop (t.next.at - from.at) bytes) t.next (is_line t.kind)) → HasItems bytes from line
    build true x e r on = (last_item sorts.Finish from ∷ [], back true x (last_item sorts.Finish from) [] e r (refl, refl))
    build false (Err (faults.Lex p)) e r on = (last_item sorts.Bad p ∷ [], back false (Err (faults.Lex p)) (last_item sorts.Bad p) [] e r (refl, refl))
    build false (Err (faults.Int p)) e r on = (last_item sorts.Int p ∷ [], back false (Err (faults.Int p)) (last_item sorts.Int p) [] e r (refl, refl))
    build false (Ok t) e r on =
        let others = on t refl refl in
        (item_of t ∷ others.0, back false (Ok t) (item_of t) others.0 e r (refl, others.1))

has_more : (n : ℕ) (bytes : List ℕ) (from : Place) (line : Bool) → 2 * length bytes + (if line then 0 else 1) < n → HasItems bytes from line
has_more zero bytes from line lt = absurd (omega arith)
has_more (suc n) bytes from line lt =
    more_of bytes from line (line && length bytes == 0) (token_at bytes from) refl refl
    (λ t e r. has_more n (drop (t.next.at - from.at) bytes) t.next (is_line t.kind) (falls bytes from line t n (token_further bytes from t r) e lt))

pub has_items : (text : List ℕ) → HasItems text start false
has_items text = has_more (2 * length text + 2) text start false (omega arith)

-- a text has one list of items

same_first : (i j : Seen) (is js : List Seen) (bytes : List ℕ) (from : Place) (ended : Bool) (read : Result Piece LexFault) → ((t : Piece) → Rest is bytes from t → Rest js bytes from t → is ≡ js) → IsFirst ended read from i is (Rest is bytes from) → IsFirst ended read from j js (Rest js bytes from) → i ∷ is ≡ j ∷ js
same_first i j is js bytes from true read on f g = cc (f.0, f.1, g.0, g.1)
same_first i j is js bytes from false (Err (faults.Lex p)) on f g = cc (f.0, f.1, g.0, g.1)
same_first i j is js bytes from false (Err (faults.Int p)) on f g = cc (f.0, f.1, g.0, g.1)
same_first i j is js bytes from false (Ok t) on f g = cc (f.0, g.0, on t f.1 g.1)

pub same_items : (is js : List Seen) (bytes : List ℕ) (from : Place) (line : Bool) → AreItems is bytes from line → AreItems js bytes from line → is ≡ js
same_items [] js bytes from line f g = absurd f
same_items (i ∷ is) [] bytes from line f g = absurd g
same_items (i ∷ is) (j ∷ js) bytes from line f g =
    same_first i j is js bytes from (line && length bytes == 0) (token_at bytes from) (λ t a b. same_items is js (drop (t.next.at - from.at) bytes) t.next (is_line t.kind) a b) f g

-- where no other item follows, the items are this one
pub last_leads : (items : List Seen) (i first : Seen) (rest : Option (Place × Bool)) (text : List ℕ) → i ≡ first → rest ≡ None → items ≡ first ∷ [] → Leads items i rest text
last_leads items i first rest text is none all =
    subst (λ (r : Option (Place × Bool)). Leads items i r text) (sym none) (all ∙ ap (λ (x : Seen). x ∷ []) (sym is))

-- where a token stands, the items are it and those behind it
pub ok_leads : (items : List Seen) (text : List ℕ) (from : Place) (line last : Bool) (t : Piece) (i : Seen) → (line && length (drop from.at text) == 0) ≡ false → token_at (drop from.at text) from ≡ Ok t → from.at ≤ t.next.at → i ≡ item_of t → last ≡ is_line t.kind → AreItems items (drop from.at text) from line → (others : List Seen) × (items ≡ i ∷ others) × AreItems others (drop t.next.at text) t.next last
ok_leads items text from line last t i e read le is end all =
    let more = at_token items _ _ _ _ e read all in
    (more.0, more.1 ∙ ap (λ (x : Seen). x ∷ more.0) (sym is), subst (λ (x : List ℕ). AreItems more.0 x t.next last) (drop_forward text from.at t.next.at le) (subst (AreItems more.0 _ _) (sym end) more.2))
