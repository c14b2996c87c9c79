-- What is taken and appended, call after call.
use Rattle.std.proofs.Common.{◌≡◌, ℕ, ◌+◌, ◌-◌, ◌<◌, ◌≤◌, min, List, [], ◌++◌, length, take, drop, sym, ap, ◌∙◌, subst, length-append, length-drop, arith}
use Rattle.std.proofs.lemmas.List.{length-take, length-take-le, take_at, take_rest, take-take, take-append-drop, drop_all, drop-drop}
use Rattle.std.proofs.Math.Seq.{take-add}
use Rattle.std.proofs.KnownBytes.{Consumes-trans, Appends-trans}
use Rattle.std.specs.declared.option.Option.{Option}
use Rattle.std.specs.Io.KnownBytes.{Consumes, Appends}
use Rattle.synth_io.specs.Taking.{TakesAtMost}

-- what is taken further adds to what was taken
pub TakesAtMost-more : (a b c : Option (List ℕ)) (old : List ℕ) (n limit : ℕ) → Consumes a b old → length old + n ≤ limit → TakesAtMost n b c → TakesAtMost limit a c
TakesAtMost-more a b c old n limit p le t = (old ++ t.0, Consumes-trans a b c old t.0 p t.1, omega (arith, t.2, length-append old t.0))

-- a write took the front of a piece of the text
pub Appends-front : (a b c : Option (List ℕ)) (text piece : List ℕ) (done size count : ℕ)
    → piece ≡ take size (take (length text - done) (drop done text)) → count ≤ length piece
    → Appends a b (take done text) → Appends b c (take count piece) → Appends a c (take (done + count) text)
Appends-front a b c text piece done size count e bound p q =
    let cut : piece ≡ take size (drop done text) = e ∙ ap (take size) (take_rest text done) in
    let le : count ≤ size = omega (arith, ap length cut, length-take size (drop done text)) in
    let same : take count piece ≡ take count (drop done text) = ap (take count) cut ∙ take-take count size (drop done text) le in
    subst (Appends a c) (sym (take-add done count text)) (Appends-trans a b c (take done text) (take count (drop done text)) p (subst (Appends b c) same q))

-- a piece of the text ends within the text
pub length-front : (text piece : List ℕ) (done size : ℕ) → done ≤ length text
    → piece ≡ take size (take (length text - done) (drop done text)) → done + length piece ≤ length text
length-front text piece done size le e =
    omega (arith, ap length e, length-take size (take (length text - done) (drop done text)), length-take (length text - done) (drop done text))

-- a read copied the front of what is left over the front of the buffer
pub copied_front : (bytes into new : List ℕ) (at n : ℕ) (rest : List ℕ) → rest ≡ take (length bytes - at) (drop at bytes)
    → n ≡ min (length rest) (length into) → new ≡ take n rest ++ drop n into
    → (drop at bytes ≡ take n new ++ drop (at + n) bytes) × (n ≡ 0 → 0 < length new → drop (at + n) bytes ≡ [])
copied_front bytes into new at n rest is e copied =
    let left : rest ≡ drop at bytes = is ∙ take_rest bytes at in
    let le : n ≤ length rest = omega arith in
    let front : take n new ≡ take n rest = ap (take n) copied ∙ take_at (take n rest) (drop n into) n (length-take-le n rest le) in
    rw (← drop-drop n at bytes, ← left) (
      sym (ap (λ l. l ++ drop n rest) front ∙ take-append-drop n rest),
      λ none some. drop_all n rest (omega (arith, ap length copied, length-append (take n rest) (drop n into), length-take n rest, length-drop n into)),
    )
