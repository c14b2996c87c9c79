use Rattle.std.proofs.lemmas.Bool.{true≢false}
use Rattle.std.proofs.lemmas.Result.{IfOk-weaker}
use Rattle.memory_check.proofs.Standing.{bad_found, bad_missing, both_ok, cell_written, lent_found, lent_missing, lent_written}
use Rattle.memory_check.proofs.memories.Memories.is_bad_in.Goals as goal

pub returns-in-Some : goal.returns-in-Some
returns-in-Some c =
    let table = c.args.self.now.stores in
    let name = c.args.name.now in
    let cell = c.args.cell.now in
    let entry = c.in-Some.ports.now in
    let noted = c.is_bad_cell.new.self in
    let found = lent_found table name c.get_mut.result c.in-Some.ports c.in-Some.is c.get_mut.ensures.value in
    let written = lent_written name table (c.get_mut.follows.lender noted) entry noted found (c.get_mut.follows.holds noted).3 in
    record {
      bad = IfOk-weaker c.is_bad_cell.result _ _
          (λ bad h m earlier knows shaped. bad_found m earlier cell c.args.kind name table entry bad found (knows.stores name) (λ s ports has. h m s ports knows.clocks has shaped))
          c.is_bad_cell.ensures.bad;
      noted = both_ok c.is_bad_cell.result _ _ _
          (λ bad h clocks good m earlier knows shaped kind named. record {
            clocks = clocks m knows.clocks;
            stores = cell_written m earlier cell c.args.kind name kind named table (c.get_mut.follows.lender noted) entry noted found written knows.stores (λ s ports has. h good m s ports knows.clocks has shaped);
          })
          c.is_bad_cell.ensures.noted c.is_bad_cell.ensures.clocks;
    }

pub returns-in-None : goal.returns-in-None
returns-in-None c =
    let table = c.args.self.now.stores in
    let name = c.args.name.now in
    let none = lent_missing table name c.get_mut.result c.in-None.is c.get_mut.ensures.value in
    record {
      bad = λ m earlier knows shaped. bad_missing m earlier c.args.cell.now c.args.kind name table none (knows.stores name);
      noted = λ good m earlier knows shaped kind named. absurd (true≢false good);
    }
