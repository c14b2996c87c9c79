-- The one of the places that are left is the one of all.
use Rattle.std.proofs.Common.{◌≡◌, List, None, drop}
use Rattle.rtl_ir.specs.declared.module.Link.{Link}
use Rattle.rtl_ir.specs.EventTests.{is_open}
use Rattle.rtl_ir.specs.Follow.{all_joins}
use Rattle.process_trees.specs.Tables.{AreLinks}
use Rattle.process_trees.proofs.Opens.{only}
use Rattle.process_trees.proofs.tables.EventTests.only_open.Given as goal

abbrev pub invariant-loop-place : goal.invariant-loop-place
invariant-loop-place l =
    (links : List Link) → AreLinks l.self links → only (is_open (all_joins links)) l.found (drop l.place-index l.inputs) ≡ only (is_open (all_joins links)) None l.inputs
