use Rattle.std.proofs.Common.{◌≡◌, ◌-◌, List, ◌++◌, Option, Ok, length, refl, sym, ap, subst, ◌∙◌}
use Rattle.std.specs.Prelude.{codes}
use Rattle.reply_lines.specs.Lines.{counted}
use Rattle.desk_core.specs.State.{KeptKey}
use Rattle.result_cache.specs.Filled.{new_count}
use Rattle.build_crew.specs.Kept.{kept_by}
use Rattle.rtl_ir.specs.declared.module.Design.{Design}
use Rattle.script_core.specs.declared.built.Built.{Built}
use Rattle.script_core.specs.Keys.{KeyParts}
use Rattle.desk_core.specs.declared.ages.Ages.{Ages}
use Rattle.desk_core.specs.Netlist.{built_count, key_texts}
use Rattle.desk_core.specs.Ages.{kept_in, texts_of}
use Rattle.desk_core.specs.Needed.{IsNeeded}
use Rattle.desk_core.specs.Results.{AreKeys, TellKeys, over_of, state_of}
use Rattle.desk_core.proofs.Ended.{returns_more}
use Rattle.desk_core.proofs.Finding.{built_few, needed_there, tell_keys}
use Rattle.desk_core.proofs.Rises.{returns_none, rises_within}
use Rattle.desk_core.proofs.Told.{built_more, grown_sound, grown_state, told_is, told_over}
use Rattle.desk_core.proofs.runs.tell.Goals as goal

pub all-requires : goal.all-requires
all-requires g c =
    let design = c.args.design.now.design in
    let table = c.in_ok-table.table.modules.now in
    let same : table ≡ design.modules = c.in_ok-table.ensures.value ∙ ap (λ (d : Design). d.modules) c.design.ensures.value in
    record {
      keys =
          subst (λ (found : List (Option Built)). TellKeys design table c.args.script.now found) (sym c.as_slice.ensures.value)
          (tell_keys design table c.args.script.now c.args.results.now same c.requires.sound);
    }

pub needed_by-requires : goal.needed_by-requires
needed_by-requires g c = record { beside = c.requires.sound.aged.beside }

pub find_all-requires-clause-keys : goal.find_all-requires-clause-keys
find_all-requires-clause-keys g c κs within =
    subst (λ (all : List KeyParts). AreKeys c.args.design.now.design c.in_ok-table.table.modules.now c.args.script.now all) (sym c.as_slice-3.ensures.value) c.in_ok-all.ensures.exact

pub find_all-requires-clause-sound : goal.find_all-requires-clause-sound
find_all-requires-clause-sound g c κs within =
    grown_sound c.args.design.now.design c.args.script.now c.args.results.now c.needed_by.new.ages c.needed_by.ensures.kept c.requires.sound c.needed_by.ensures.beside c.needed_by.ensures.young

pub returns-in_err-needed-clause-sound : goal.returns-in_err-needed-clause-sound
returns-in_err-needed-clause-sound g c =
    grown_sound c.args.design.now.design c.args.script.now c.args.results.now c.needed_by.new.ages c.needed_by.ensures.kept c.requires.sound c.needed_by.ensures.beside c.needed_by.ensures.young

pub returns-in_err-needed-clause-state : goal.returns-in_err-needed-clause-state
returns-in_err-needed-clause-state g c =
    grown_state c.args.design.now.design c.args.script.now c.args.results.now c.needed_by.new.ages c.needed_by.ensures.kept (record c.args.results.now { ages = c.needed_by.new.ages }) refl

pub returns-in_err-needed-clause-returned : goal.returns-in_err-needed-clause-returned
returns-in_err-needed-clause-returned g c =
    returns_none (built_count (state_of c.args.design.now.design c.args.script.now c.args.results.now)) c.args.results.now.seats.items c.args.results.now.seats.items c.args.meter.now c.args.meter.now refl refl

pub returns-in_err-find_all-clause-state : goal.returns-in_err-find_all-clause-state
returns-in_err-find_all-clause-state g c =
    grown_state c.args.design.now.design c.args.script.now c.args.results.now c.needed_by.new.ages c.needed_by.ensures.kept c.find_all.new.results c.find_all.ensures.ages

pub returns-in_err-find_all-clause-returned : goal.returns-in_err-find_all-clause-returned
returns-in_err-find_all-clause-returned g c =
    returns_more (new_count (kept_by c.args.results.now.seats.items) (key_texts c.args.script.now c.args.design.now.design.modules)) (built_count (state_of c.args.design.now.design c.args.script.now c.args.results.now)) c.args.results.now.seats.items c.find_all.new.results.seats.items
    c.args.meter.now c.find_all.new.meter (built_more c.args.design.now.design c.args.script.now c.args.results.now c.requires.sound) c.find_all.ensures.returned

pub returns-in_err-told-clause-state : goal.returns-in_err-told-clause-state
returns-in_err-told-clause-state g c =
    grown_state c.args.design.now.design c.args.script.now c.args.results.now c.needed_by.new.ages c.needed_by.ensures.kept c.find_all.new.results c.find_all.ensures.ages

pub returns-in_err-told-clause-returned : goal.returns-in_err-told-clause-returned
returns-in_err-told-clause-returned g c =
    returns_more (new_count (kept_by c.args.results.now.seats.items) (key_texts c.args.script.now c.args.design.now.design.modules)) (built_count (state_of c.args.design.now.design c.args.script.now c.args.results.now)) c.args.results.now.seats.items c.find_all.new.results.seats.items
    c.args.meter.now c.find_all.new.meter (built_more c.args.design.now.design c.args.script.now c.args.results.now c.requires.sound) c.find_all.ensures.returned

pub returns-clause-state : goal.returns-clause-state
returns-clause-state g c =
    grown_state c.args.design.now.design c.args.script.now c.args.results.now c.needed_by.new.ages c.needed_by.ensures.kept c.find_all.new.results c.find_all.ensures.ages

pub returns-clause-returned : goal.returns-clause-returned
returns-clause-returned g c =
    returns_more (new_count (kept_by c.args.results.now.seats.items) (key_texts c.args.script.now c.args.design.now.design.modules)) (built_count (state_of c.args.design.now.design c.args.script.now c.args.results.now)) c.args.results.now.seats.items c.find_all.new.results.seats.items
    c.args.meter.now c.find_all.new.meter (built_more c.args.design.now.design c.args.script.now c.args.results.now c.requires.sound) c.find_all.ensures.returned

pub returns-clause-ticks : goal.returns-clause-ticks
returns-clause-ticks g c =
    rises_within (new_count (kept_by c.args.results.now.seats.items) (key_texts c.args.script.now c.args.design.now.design.modules)) (built_count (state_of c.args.design.now.design c.args.script.now c.args.results.now)) c.args.meter.now c.find_all.new.meter
    c.in_ok-find_all.ensures.ticks (built_more c.args.design.now.design c.args.script.now c.args.results.now c.requires.sound)

pub tell_found-requires : goal.tell_found-requires
tell_found-requires g c =
    let needs =
    needed_there c.args.design.now.design c.in_ok-table.table.modules.now c.args.script.now c.in_ok-all.all.items c.as_slice-2.result.now c.needed_by.new.ages c.in_ok-needed.needed c.as_slice-2.ensures.value c.in_ok-all.ensures.exact c.in_ok-needed.ensures.needed in
    record { few = built_few c.args.design.now.design c.args.script.now (texts_of (kept_in c.needed_by.new.ages.keys c.needed_by.new.ages.ages.items)) c.in_ok-needed.needed.built needs.built }

pub returns-clause-needed : goal.returns-clause-needed
returns-clause-needed g c =
    subst (λ (ages : Ages). IsNeeded (key_texts c.args.script.now c.args.design.now.design.modules) ages c.in_ok-needed.needed) (sym c.find_all.ensures.ages)
    (needed_there c.args.design.now.design c.in_ok-table.table.modules.now c.args.script.now c.in_ok-all.all.items c.as_slice-2.result.now c.needed_by.new.ages c.in_ok-needed.needed c.as_slice-2.ensures.value c.in_ok-all.ensures.exact c.in_ok-needed.ensures.needed)

pub returns-clause-told : goal.returns-clause-told
returns-clause-told g c =
    let needs =
    needed_there c.args.design.now.design c.in_ok-table.table.modules.now c.args.script.now c.in_ok-all.all.items c.as_slice-2.result.now c.needed_by.new.ages c.in_ok-needed.needed c.as_slice-2.ensures.value c.in_ok-all.ensures.exact c.in_ok-needed.ensures.needed in
    let design = c.args.design.now.design in
    let script = c.args.script.now in
    let s = state_of design script c.args.results.now in
    let texts = key_texts script design.modules in
    let built = c.in_ok-needed.needed.built in
    let words = counted (codes "built") built ++ counted (codes "reused") (length design.modules - built) in
    let over = over_of design.modules c.as_slice-4.result.now in
    let count : built ≡ built_count s = needs.built ∙ ap (λ (kept : List KeptKey). new_count (texts_of kept) texts) c.needed_by.ensures.kept in
    told_is s words over built (Ok c.in_ok-told.told) c.in_ok-told.ensures.value refl count
    (told_over design script c.find_all.new.results over c.find_all.ensures.sound c.in_ok-find_all.ensures.found (ap (over_of design.modules) c.as_slice-4.ensures.value))
