-- A text is that of one key.
use Rattle.std.proofs.Common.{◌≡◌, ℕ, ◌+◌, ◌<◌, ◌^◌, List, [], ◌∷◌, ◌++◌, length, map, false, refl, sym, ap, subst, ◌∙◌, arith, append_assoc, length-append}
use Rattle.std.specs.Prelude.{◌==◌, if◌then◌else◌}
use Rattle.std.specs.Fmt.{decimal}
use Rattle.std.proofs.lemmas.Bool.Decides.{nat_tests}
use Rattle.std.proofs.lemmas.Fmt.{decimal_injective}
use Rattle.std.proofs.lemmas.List.Elements.{All-head, All-tail}
use Rattle.rtl_write.proofs.Marks.{Lacks, number_lacks}
use Rattle.script_core.specs.declared.key.Span.{Span}
use Rattle.script_core.specs.declared.word.Word.{Word}
use Rattle.script_core.specs.declared.word.Word.TheVariants.{Proc, OptExpr, OptMerge, OptClean, Opt, Fsm, Memory, Techmap, Muxtree, Reduce, Dff, Flatten}
use Rattle.script_core.specs.Words.{letter_of}
use Rattle.script_core.specs.Keys.{IsThere, IsWhole, KeyParts, key_text, part_text, parts_of}

no_mark : (mark y : ℕ) → (y == mark) ≡ false → mark ≡ y → ⊥
no_mark mark y e same = grind (arith, nat_tests)

-- two texts that are equal are equal in front of the first mark, and behind it
cut_at : (mark : ℕ) (xs ys u v : List ℕ) → Lacks mark xs → Lacks mark ys → xs ++ mark ∷ u ≡ ys ++ mark ∷ v → (xs ≡ ys) × (u ≡ v)
cut_at mark [] [] u v p q e = (refl, cc)
cut_at mark [] (y ∷ ys) u v p q e = absurd (no_mark mark y (All-head (λ b. (b == mark) ≡ false) y ys q) cc)
cut_at mark (x ∷ xs) [] u v p q e = absurd (no_mark mark x (All-head (λ b. (b == mark) ≡ false) x xs p) cc)
cut_at mark (x ∷ xs) (y ∷ ys) u v p q e =
    let rest : xs ++ mark ∷ u ≡ ys ++ mark ∷ v = cc in
    let more = cut_at mark xs ys u v (All-tail (λ b. (b == mark) ≡ false) x xs p) (All-tail (λ b. (b == mark) ≡ false) y ys q) rest in
    let left = more.0 in
    let right = more.1 in
    (cc, right)

-- .. and where they begin with lists of one length, these are equal, and what is behind them
cut_by : (xs ys u v : List ℕ) → length xs ≡ length ys → xs ++ u ≡ ys ++ v → (xs ≡ ys) × (u ≡ v)
cut_by [] [] u v n e = (refl, e)
cut_by [] (y ∷ ys) u v n e = absurd (omega arith)
cut_by (x ∷ xs) [] u v n e = absurd (omega arith)
cut_by (x ∷ xs) (y ∷ ys) u v n e =
    let rest : xs ++ u ≡ ys ++ v = cc in
    let more = cut_by xs ys u v (omega arith) rest in
    let left = more.0 in
    let right = more.1 in
    (cc, right)

part_parts : (part rest : List ℕ) → part_text part ++ rest ≡ decimal (length part) ++ 32 ∷ (part ++ rest)
unfolding part_text
part_parts part rest = append_assoc (decimal (length part)) (32 ∷ part) rest

part_once : (xs ys u v : List ℕ) → length xs < 2 ^ 64 → length ys < 2 ^ 64 → part_text xs ++ u ≡ part_text ys ++ v → (xs ≡ ys) × (u ≡ v)
part_once xs ys u v short small e =
    let parts = cut_at 32 (decimal (length xs)) (decimal (length ys)) (xs ++ u) (ys ++ v)
    (number_lacks 32 (length xs) (omega arith) short) (number_lacks 32 (length ys) (omega arith) small)
    (sym (part_parts xs u) ∙ e ∙ part_parts ys v) in
    cut_by xs ys u v (decimal_injective (length xs) (length ys) short small parts.0) parts.1

-- the word of a letter
abbrev word_of : ℕ → Word
word_of n =
    if n == 112 then Proc
    else if n == 101 then OptExpr
    else if n == 109 then OptMerge
    else if n == 99 then OptClean
    else if n == 111 then Opt
    else if n == 102 then Fsm
    else if n == 121 then Memory
    else if n == 116 then Techmap
    else if n == 120 then Muxtree
    else if n == 114 then Reduce
    else if n == 100 then Dff
    else Flatten

word_back : (w : Word) → word_of (letter_of w) ≡ w
word_back Proc = refl
word_back OptExpr = refl
word_back OptMerge = refl
word_back OptClean = refl
word_back Opt = refl
word_back Fsm = refl
word_back Memory = refl
word_back Techmap = refl
word_back Muxtree = refl
word_back Reduce = refl
word_back Dff = refl
word_back Flatten = refl

words_back : (ws : List Word) → map word_of (map letter_of ws) ≡ ws
words_back [] = refl
words_back (w ∷ ws) = (λ i. word_back w i ∷ words_back ws i)

words_once : (ws vs : List Word) → map letter_of ws ≡ map letter_of vs → ws ≡ vs
words_once ws vs e = sym (words_back ws) ∙ ap (map word_of) e ∙ words_back vs

-- a part is no longer than a text that it stands in
part_short : (part rest : List ℕ) (n : ℕ) → length (part_text part ++ rest) < n → (length part < n) × (length rest < n)
part_short part rest n h =
    let whole : length (part_text part ++ rest) ≡ length (decimal (length part)) + length (32 ∷ (part ++ rest)) = ap length (part_parts part rest) ∙ length-append (decimal (length part)) (32 ∷ (part ++ rest)) in
    let behind = length-append part rest in
    (omega arith, omega arith)

-- what stands behind the ports, and behind the body
abbrev behind_ports : KeyParts → List ℕ
behind_ports k = part_text k.below ++ map letter_of k.script

abbrev behind_body : KeyParts → List ℕ
behind_body k = part_text k.ports ++ behind_ports k

key_parts : (k : KeyParts) → key_text k ≡ part_text k.body ++ behind_body k
unfolding key_text
key_parts k =
    append_assoc (part_text k.body ++ part_text k.ports) (part_text k.below) (map letter_of k.script)
    ∙ append_assoc (part_text k.body) (part_text k.ports) (behind_ports k)

-- a text that is shorter than 2 to the 64 is that of one key
pub key_once : (k o : KeyParts) → length (key_text k) < 2 ^ 64 → key_text o ≡ key_text k → o ≡ k
key_once k o h e =
    let k_body = part_short k.body (behind_body k) (2 ^ 64) (subst (λ (l : List ℕ). length l < 2 ^ 64) (key_parts k) h) in
    let o_body = part_short o.body (behind_body o) (2 ^ 64) (subst (λ (l : List ℕ). length l < 2 ^ 64) (sym e ∙ key_parts o) h) in
    let k_ports = part_short k.ports (behind_ports k) (2 ^ 64) k_body.1 in
    let o_ports = part_short o.ports (behind_ports o) (2 ^ 64) o_body.1 in
    let k_below = part_short k.below (map letter_of k.script) (2 ^ 64) k_ports.1 in
    let o_below = part_short o.below (map letter_of o.script) (2 ^ 64) o_ports.1 in
    let first = part_once o.body k.body (behind_body o) (behind_body k) o_body.0 k_body.0 (sym (key_parts o) ∙ e ∙ key_parts k) in
    let second = part_once o.ports k.ports (behind_ports o) (behind_ports k) o_ports.0 k_ports.0 first.1 in
    let third = part_once o.below k.below (map letter_of o.script) (map letter_of k.script) o_below.0 k_below.0 second.1 in
    let fourth = words_once o.script k.script third.1 in
    (λ i. record { body = first.0 i; ports = second.0 i; script = fourth i; below = third.0 i })

-- the parts of a key, written one after another, and where they stand
module _ (key : KeyParts) (body ports below : Span) (first second third text : List ℕ)
    (is_first : first ≡ part_text key.body) (is_second : second ≡ first ++ part_text key.ports) (is_third : third ≡ second ++ part_text key.below)
    (is_text : text ≡ third ++ map letter_of key.script)
    (body_there : (rest : List ℕ) → IsThere body (first ++ rest) key.body)
    (ports_there : (rest : List ℕ) → IsThere ports (second ++ rest) key.ports)
    (below_there : (rest : List ℕ) → IsThere below (third ++ rest) key.below) where
  behind_second : text ≡ second ++ behind_ports key
  behind_second = is_text ∙ ap (λ (l : List ℕ). l ++ map letter_of key.script) is_third ∙ append_assoc second (part_text key.below) (map letter_of key.script)

  behind_first : text ≡ first ++ behind_body key
  behind_first = behind_second ∙ ap (λ (l : List ℕ). l ++ behind_ports key) is_second ∙ append_assoc first (part_text key.ports) (behind_ports key)

  body_in : IsThere body text key.body
  body_in = subst (λ (l : List ℕ). IsThere body l key.body) (sym behind_first) (body_there (behind_body key))

  ports_in : IsThere ports text key.ports
  ports_in = subst (λ (l : List ℕ). IsThere ports l key.ports) (sym behind_second) (ports_there (behind_ports key))

  below_in : IsThere below text key.below
  below_in = subst (λ (l : List ℕ). IsThere below l key.below) (sym is_text) (below_there (map letter_of key.script))

  pub parts_are : parts_of text body ports below key.script ≡ key
  parts_are = λ i. record { body = body_in.same i; ports = ports_in.same i; script = key.script; below = below_in.same i }

  pub is_whole : IsWhole text body ports below key.script
  is_whole = record {
    body = record { ordered = body_in.ordered; within = body_in.within; same = refl };
    ports = record { ordered = ports_in.ordered; within = ports_in.within; same = refl };
    below = record { ordered = below_in.ordered; within = below_in.within; same = refl };
    whole = ap key_text parts_are ∙ key_parts key ∙ sym (behind_first ∙ ap (λ (l : List ℕ). l ++ behind_body key) is_first);
  }
