use Rattle.std.proofs.Common.{◌≡◌, ◌-◌, List, ◌++◌, Option, Ok, length, refl, sym, ap, subst, ◌∙◌}
use Rattle.std.specs.Prelude.{codes}
use Rattle.reply_lines.specs.Lines.{counted}
use Rattle.rtl_ir.specs.declared.module.Design.{Design}
use Rattle.result_cache.specs.Filled.{new_count}
use Rattle.script_core.specs.declared.built.Built.{Built}
use Rattle.script_core.specs.Keys.{KeyParts}
use Rattle.desk_core.specs.declared.ages.Ages.{Ages}
use Rattle.desk_core.specs.Ages.{kept_in, texts_of}
use Rattle.desk_core.specs.Netlist.{built_count, key_texts}
use Rattle.desk_core.specs.Needed.{IsNeeded}
use Rattle.desk_core.specs.Results.{AreKeys, TellKeys, over_of}
use Rattle.desk_core.specs.Solo.{own_state}
use Rattle.desk_core.specs.State.{KeptKey}
use Rattle.desk_core.proofs.Finding.{built_few, needed_there}
use Rattle.desk_core.proofs.SoloRuns.{own_grown, own_over, own_rises, own_state_grown, own_tell}
use Rattle.desk_core.proofs.Told.{told_is}
use Rattle.desk_core.proofs.solo_runs.tell.Goals as goal

pub all-requires : goal.all-requires
all-requires g c =
    let design = c.args.present.now.design.design in
    let script = c.args.present.now.script in
    let table = c.in_ok-table.table.modules.now in
    let same : table ≡ design.modules = c.in_ok-table.ensures.value ∙ ap (λ (d : Design). d.modules) c.design.ensures.value in
    record {
      keys = subst (λ (found : List (Option Built)). TellKeys design table script found) (sym c.as_slice.ensures.value) (own_tell design script c.args.results.now table same c.requires.own);
    }

pub needed_by-requires : goal.needed_by-requires
needed_by-requires g c = record { beside = c.requires.own.aged.beside }

pub find_own-requires-clause-keys : goal.find_own-requires-clause-keys
find_own-requires-clause-keys g c =
    subst (λ (all : List KeyParts). AreKeys c.args.present.now.design.design c.in_ok-table.table.modules.now c.args.present.now.script all) (sym c.as_slice-3.ensures.value) c.in_ok-all.ensures.exact

pub find_own-requires-clause-own : goal.find_own-requires-clause-own
find_own-requires-clause-own g c =
    let own =
    own_grown c.args.present.now.design.design c.args.present.now.script c.args.results.now c.needed_by.new.ages c.needed_by.ensures.kept c.needed_by.ensures.beside c.needed_by.ensures.young c.requires.own in
    search (own)

pub returns-in_err-needed-clause-own : goal.returns-in_err-needed-clause-own
returns-in_err-needed-clause-own g c =
    own_grown c.args.present.now.design.design c.args.present.now.script c.args.results.now c.needed_by.new.ages c.needed_by.ensures.kept c.needed_by.ensures.beside c.needed_by.ensures.young c.requires.own

pub returns-in_err-needed-clause-state : goal.returns-in_err-needed-clause-state
returns-in_err-needed-clause-state g c = own_state_grown c.args.present.now.design.design c.args.present.now.script c.args.results.now c.needed_by.new.ages c.needed_by.ensures.kept (record c.args.results.now { ages = c.needed_by.new.ages }) refl

pub returns-in_err-find_own-clause-state : goal.returns-in_err-find_own-clause-state
returns-in_err-find_own-clause-state g c = own_state_grown c.args.present.now.design.design c.args.present.now.script c.args.results.now c.needed_by.new.ages c.needed_by.ensures.kept c.find_own.new.results c.find_own.ensures.ages

pub returns-in_err-find_own-clause-ticks : goal.returns-in_err-find_own-clause-ticks
returns-in_err-find_own-clause-ticks g c = own_rises c.args.present.now.design.design c.args.present.now.script c.args.results.now c.args.meter.now c.find_own.new.meter c.requires.own c.find_own.ensures.ticks

pub returns-in_err-told-clause-state : goal.returns-in_err-told-clause-state
returns-in_err-told-clause-state g c = own_state_grown c.args.present.now.design.design c.args.present.now.script c.args.results.now c.needed_by.new.ages c.needed_by.ensures.kept c.find_own.new.results c.find_own.ensures.ages

pub returns-in_err-told-clause-ticks : goal.returns-in_err-told-clause-ticks
returns-in_err-told-clause-ticks g c = own_rises c.args.present.now.design.design c.args.present.now.script c.args.results.now c.args.meter.now c.find_own.new.meter c.requires.own c.find_own.ensures.ticks

pub returns-clause-state : goal.returns-clause-state
returns-clause-state g c = own_state_grown c.args.present.now.design.design c.args.present.now.script c.args.results.now c.needed_by.new.ages c.needed_by.ensures.kept c.find_own.new.results c.find_own.ensures.ages

pub returns-clause-ticks : goal.returns-clause-ticks
returns-clause-ticks g c = own_rises c.args.present.now.design.design c.args.present.now.script c.args.results.now c.args.meter.now c.find_own.new.meter c.requires.own c.find_own.ensures.ticks

pub tell_found-requires : goal.tell_found-requires
tell_found-requires g c =
    let needs =
    needed_there c.args.present.now.design.design c.in_ok-table.table.modules.now c.args.present.now.script c.in_ok-all.all.items c.as_slice-2.result.now c.needed_by.new.ages c.in_ok-needed.needed c.as_slice-2.ensures.value c.in_ok-all.ensures.exact c.in_ok-needed.ensures.needed in
    record { few = built_few c.args.present.now.design.design c.args.present.now.script (texts_of (kept_in c.needed_by.new.ages.keys c.needed_by.new.ages.ages.items)) c.in_ok-needed.needed.built needs.built }

pub returns-clause-needed : goal.returns-clause-needed
returns-clause-needed g c =
    subst (λ (ages : Ages). IsNeeded (key_texts c.args.present.now.script c.args.present.now.design.design.modules) ages c.in_ok-needed.needed) (sym c.find_own.ensures.ages)
    (needed_there c.args.present.now.design.design c.in_ok-table.table.modules.now c.args.present.now.script c.in_ok-all.all.items c.as_slice-2.result.now c.needed_by.new.ages c.in_ok-needed.needed c.as_slice-2.ensures.value c.in_ok-all.ensures.exact c.in_ok-needed.ensures.needed)

pub returns-clause-told : goal.returns-clause-told
returns-clause-told g c =
    let needs =
    needed_there c.args.present.now.design.design c.in_ok-table.table.modules.now c.args.present.now.script c.in_ok-all.all.items c.as_slice-2.result.now c.needed_by.new.ages c.in_ok-needed.needed c.as_slice-2.ensures.value c.in_ok-all.ensures.exact c.in_ok-needed.ensures.needed in
    let design = c.args.present.now.design.design in
    let script = c.args.present.now.script in
    let s = own_state design script c.args.results.now in
    let texts = key_texts script design.modules in
    let built = c.in_ok-needed.needed.built in
    let words = counted (codes "built") built ++ counted (codes "reused") (length design.modules - built) in
    let over = over_of design.modules c.as_slice-4.result.now in
    let count : built ≡ built_count s = needs.built ∙ ap (λ (kept : List KeptKey). new_count (texts_of kept) texts) c.needed_by.ensures.kept in
    told_is s words over built (Ok c.in_ok-told.told) c.in_ok-told.ensures.value refl count
    (own_over design script c.find_own.new.results over c.find_own.ensures.own c.in_ok-find_own.ensures.found (ap (over_of design.modules) c.as_slice-4.ensures.value))
