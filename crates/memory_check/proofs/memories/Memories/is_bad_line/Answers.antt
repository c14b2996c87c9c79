use Rattle.std.proofs.Common.{◌≡◌, ℕ, List, Some, None, cond, subst}
use Rattle.std.specs.Str.{bytes_eq}
use Rattle.std.proofs.lemmas.Bool.{true≢false}
use Rattle.std.proofs.lemmas.Result.{IfOk-weaker}
use Rattle.net_index.specs.Types.{at_name}
use Rattle.memory_check.specs.Ports.{line_of}
use Rattle.memory_check.proofs.Standing.{both_ok, lent_found, lent_missing, lent_written, line_found, line_missing, line_written}
use Rattle.memory_check.proofs.memories.Memories.is_bad_line.Goals as goal

pub returns-in-Some : goal.returns-in-Some
returns-in-Some c =
    let table = c.args.self.now.stores in
    let given = c.as_slice.result.now in
    let name = c.args.line.now.memory in
    let same = c.as_slice.ensures.value in
    let l = line_of c.args.event.now c.args.line.now in
    let entry = c.in-Some.ports.now in
    let noted = c.is_bad_line.new.self in
    let new = c.get_mut.follows.lender noted in
    let lent = lent_found table given c.get_mut.result c.in-Some.ports c.in-Some.is c.get_mut.ensures.value in
    let found = subst (λ n. at_name table n ≡ Some entry) same lent in
    let written = subst (λ n. (q : List ℕ) → at_name new q ≡ cond (bytes_eq n q) (Some noted) (at_name table q)) same (lent_written given table new entry noted lent (c.get_mut.follows.holds noted).3) in
    record {
      bad = IfOk-weaker c.is_bad_line.result _ _
          (λ bad h m before knows. line_found m before l table entry bad found (knows.stores name) (λ s ports lines has. h m s ports lines knows.clocks has))
          c.is_bad_line.ensures.bad;
      noted = both_ok c.is_bad_line.result _ _ _
          (λ bad h clocks good m before knows. record {
            clocks = clocks m knows.clocks;
            stores = line_written m before l table new entry noted found written knows.stores (λ s ports lines has. h good m s ports lines knows.clocks has);
          })
          c.is_bad_line.ensures.noted c.is_bad_line.ensures.clocks;
    }

pub returns-in-None : goal.returns-in-None
returns-in-None c =
    let table = c.args.self.now.stores in
    let name = c.args.line.now.memory in
    let lent = lent_missing table c.as_slice.result.now c.get_mut.result c.in-None.is c.get_mut.ensures.value in
    let none = subst (λ n. at_name table n ≡ None) c.as_slice.ensures.value lent in
    record {
      bad = λ m before knows. line_missing m before (line_of c.args.event.now c.args.line.now) table none (knows.stores name);
      noted = λ good m before knows. absurd (true≢false good);
    }
