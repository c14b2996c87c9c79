use Rattle.std.proofs.Common.{sym, ◌∙◌, arith}
use Rattle.work_crew.proofs.Setups.{dealt_first, keeps_dealt, keeps_thieves, keeps_length}
use Rattle.work_crew.proofs.setup.room_for.Goals as goal

pub rows_for-requires-clause-first : goal.rows_for-requires-clause-first
rows_for-requires-clause-first g c = dealt_first 0 c.args.workers c.args.count c.in_ok-deques.deques.owners.items c.in_ok-deques.ensures.dealt

pub rows_for-requires-clause-some : goal.rows_for-requires-clause-some
rows_for-requires-clause-some g c = let l = c.in_ok-deques.ensures.len in let w = c.requires.0 in omega arith

pub seats_for-requires-clause-rows : goal.seats_for-requires-clause-rows
seats_for-requires-clause-rows g c = c.in_ok-rows.ensures.len ∙ sym (keeps_length c.in_ok-deques.deques.owners.items c.rows_for.new.owners.items c.in_ok-rows.ensures.kept)

pub seats_for-requires-clause-works : goal.seats_for-requires-clause-works
seats_for-requires-clause-works g c = c.in_ok-works.ensures.len ∙ sym (keeps_length c.in_ok-deques.deques.owners.items c.rows_for.new.owners.items c.in_ok-rows.ensures.kept ∙ c.in_ok-deques.ensures.len)

pub seats_for-requires-clause-room : goal.seats_for-requires-clause-room
seats_for-requires-clause-room g c =
    let k = keeps_length c.in_ok-deques.deques.owners.items c.rows_for.new.owners.items c.in_ok-rows.ensures.kept in
    let l = c.in_ok-deques.ensures.len in
    let a = c.rows_for.new.owners.ok.0 in
    let b = c.in_ok-seats.ensures.capacity in
    omega arith

pub returns-clause-ok : goal.returns-clause-ok
returns-clause-ok g c =
    let os = c.in_ok-deques.deques.owners.items in
    let ps = c.rows_for.new.owners.items in
    let kept = c.in_ok-rows.ensures.kept in
    let l = c.in_ok-deques.ensures.len in
    let s = c.seats_for.ensures in
    record {
      owners = ps;
      rows = c.in_ok-rows.rows.items;
      works = c.in_ok-works.works.items;
      seats = s.seats;
      dealt = keeps_dealt 0 c.args.workers c.args.count os ps kept c.in_ok-deques.ensures.dealt;
      fixed = c.in_ok-rows.ensures.fixed;
      noted = c.in_ok-rows.ensures.noted;
      thieves = keeps_thieves os ps c.in_ok-deques.deques.thieves.items kept c.in_ok-deques.ensures.thieves;
      idle = c.in_ok-works.ensures.idle;
      owners_len = keeps_length os ps kept ∙ l;
      rows_len = c.in_ok-rows.ensures.len ∙ l;
      works_len = c.in_ok-works.ensures.len;
      places = c.in_ok-places.ensures;
      lists = (c.in_ok-lists.ensures.items, (let k = c.in_ok-lists.ensures.capacity in omega arith));
      items = (c.in_ok-items.ensures.items, (let k = c.in_ok-items.ensures.capacity in omega arith));
      owners_left = (s.owners.0, (let a = s.owners.1 in let b = c.in_ok-rows.ensures.capacity.0 in let d = c.in_ok-deques.ensures.capacity in omega arith));
      rows_left = (s.rows.0, (let a = s.rows.1 in let b = c.in_ok-rows.ensures.capacity.1 in omega arith));
    }
