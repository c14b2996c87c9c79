use Rattle.std.proofs.Common.{◌≡◌, ◌<◌, ◌++◌, ◌∷◌, ◌∙◌, ℕ, List, [], ap, arith, length, map, sym}
use Rattle.std.specs.List.{range_with_len}
use Rattle.std.proofs.lemmas.List.FromFn.{map-range_with_len_more}
use Rattle.script_core.specs.Keys.{KeyParts, key_of}
use Rattle.desk_core.proofs.Finding.{beside_own}
use Rattle.desk_core.proofs.keys.Keys.all.Goals as goal

pub bounds-found-at : goal.bounds-found-at
bounds-found-at c = let e = c.requires.keys.beside in omega (arith, e)

pub known_at-requires-clause-own : goal.known_at-requires-clause-own
known_at-requires-clause-own c =
    let keys = c.args.self.now in
    let other = c.index-found-at.result in
    let within : c.loop-at.at < length keys.design.now.design.modules = omega arith in
    beside_own keys.design.now.design keys.table.now.modules.now keys.script.now c.args.found.now c.loop-at.at other other c.requires.keys within (sym c.index-found-at.is)

pub loop-at-preserved : goal.loop-at-preserved
loop-at-preserved c =
    let keys = c.args.self.now in
    let key = λ (n : ℕ). key_of keys.design.now.design.modules n keys.script.now in
    let before = map key (range_with_len 0 c.loop-at.at) in
    c.in_ok-push.ensures.items
    ∙ ap (λ (l : List KeyParts). l ++ c.in_ok-known_at.field-0 ∷ []) c.loop-at.invariant
    ∙ ap (λ (k : KeyParts). before ++ k ∷ []) c.in_ok-known_at.ensures.exact
    ∙ sym (map-range_with_len_more key 0 c.loop-at.at c.loop-at.at (omega arith))

pub returns : goal.returns
returns c =
    let keys = c.args.self.now in
    let key = λ (n : ℕ). key_of keys.design.now.design.modules n keys.script.now in
    let all : c.loop-at.at ≡ length keys.design.now.design.modules = omega arith in
    record {
      exact = record {
        readable = c.requires.keys.readable;
        same = c.requires.keys.same;
        all = c.loop-at.invariant ∙ ap (λ (n : ℕ). map key (range_with_len 0 n)) all;
      };
    }
