use Rattle.std.proofs.Common.{◌∙◌, ◌+◌, ◌++◌, ap, arith, drop, filter, sym}
use Rattle.std.specs.Option.{is_some}
use Rattle.desk_core.specs.declared.ages.Ages.{Ages}
use Rattle.desk_core.specs.Ages.{aged_keys}
use Rattle.desk_core.proofs.Compacting.{IsRead, ages_more, ages_skip, keys_more, keys_skip, next_is_new}
use Rattle.desk_core.proofs.ages.Ages.aged.Goals as goal
use Rattle.desk_core.proofs.ages.Ages.aged.Goals.{in-Some+in_ok-shared+in_ok-put, in_default}

pub put-requires : goal.put-requires
put-requires c =
    let keys = c.args.self.now.keys in
    let ages = c.args.self.now.ages.items in
    let at = c.loop-index.index in
    let here : IsRead keys ages at c.index.result.now = record {
      in_keys = omega (arith, c.loop-index-test.true, c.count-index-end.ensures.value);
      in_ages = omega (arith, c.loop-index-test.true, c.count-index-end.ensures.value, c.requires.beside);
      age = c.index.ensures;
    } in
    record { new = next_is_new keys ages at c.index.result.now here c.loop-index.aged.keys c.in_ok-shared.field-0 c.in-Some.age c.count-index-end.ensures.distinct c.in_ok-shared.ensures.value c.in-Some.is c.loop-index.invariant.keys }

pub loop-index-preserved : goal.loop-index-preserved
loop-index-preserved c =
    let keys = c.args.self.now.keys in
    let ages = c.args.self.now.ages.items in
    let at = c.loop-index.index in
    let here : IsRead keys ages at c.index.result.now = record {
      in_keys = omega (arith, c.loop-index-test.true, c.count-index-end.ensures.value);
      in_ages = omega (arith, c.loop-index-test.true, c.count-index-end.ensures.value, c.requires.beside);
      age = c.index.ensures;
    } in
    elim c.match-index.branch [
      | in-Some+in_ok-shared+in_ok-put w ↦ record {
        keys =
            ap (λ xs. xs ++ aged_keys (drop (at + 1) keys) (drop (at + 1) ages)) (ap (λ (a : Ages). a.keys) w.aged-is ∙ w.in_ok-put.ensures.keys)
            ∙ keys_more keys ages at c.index.result.now here c.loop-index.aged.keys w.in_ok-shared.field-0 w.in-Some.age w.in_ok-shared.ensures.value w.in-Some.is c.loop-index.invariant.keys;
        ages =
            ap (λ xs. xs ++ filter is_some (drop (at + 1) ages)) (ap (λ (a : Ages). a.ages.items) w.aged-is ∙ w.in_ok-put.ensures.ages)
            ∙ ages_more keys ages at c.index.result.now here c.loop-index.aged.ages.items w.in-Some.age w.in-Some.is c.loop-index.invariant.ages;
      }
      | in_default w ↦ record {
        keys =
            ap (λ (a : Ages). a.keys ++ aged_keys (drop (at + 1) keys) (drop (at + 1) ages)) w.aged-is
            ∙ ap (λ ks. c.loop-index.aged.keys ++ ks) (sym (keys_skip keys ages at c.index.result.now here w.in_default.is))
            ∙ c.loop-index.invariant.keys;
        ages =
            ap (λ (a : Ages). a.ages.items ++ filter is_some (drop (at + 1) ages)) w.aged-is
            ∙ ap (λ xs. c.loop-index.aged.ages.items ++ xs) (sym (ages_skip keys ages at c.index.result.now here w.in_default.is))
            ∙ c.loop-index.invariant.ages;
      }
    ]
