-- Commands that need no netlist, of a desk that asks a shared cache.
use Rattle.std.proofs.Common.{List, Global, Vec, ◌≡◌, Option, Result, Ok, Err, ap, subst, ◌∙◌}
use Rattle.std.specs.Prelude.{IfOk, OnErr}
use Rattle.rtl_bits.specs.declared.memory.Memory.{Memory}
use Rattle.reply_lines.specs.declared.reply.Reply.{Reply}
use Rattle.result_cache.specs.Filled.{filled_keys}
use Rattle.script_core.specs.declared.built.Built.{Built}
use Rattle.desk_read.specs.declared.command.Command.{Command}
use Rattle.desk_core.specs.declared.own_results.OwnResults.{OwnResults}
use Rattle.desk_core.specs.declared.present.Present.{Present}
use Rattle.desk_core.specs.Ages.{kept_in}
use Rattle.desk_core.specs.Builds.{KeepsAll}
use Rattle.desk_core.specs.Present.{KeepsBeside, state_with}
use Rattle.desk_core.specs.Solo.{AreOwn, own_state}
use Rattle.desk_core.specs.State.{KeptKey, State}
use Rattle.desk_core.specs.Step.{IsStep}
use Rattle.desk_core.proofs.Told.{keeps_same}

module _ (old new : Present) (results : OwnResults) (found : Vec (Option Built) Global) where
  -- its results stay sound where those beside the modules are still those of their keys
  pub own_present : AreOwn old.design.design old.script results → KeepsBeside old results.found.items new found.items → AreOwn new.design.design new.script (record results { found = found })
  own_present own keeps = record { free = own.free; aged = own.aged; stand = keeps (filled_keys results.shard) own.stand }

  module _ (v : State) (r : Result Reply Memory) (is : own_state old.design.design old.script results ≡ v) where
    -- an error keeps the state
    pub own_keeps : OnErr r ((new ≡ old) × (found ≡ results.found)) → OnErr r (KeepsAll v (own_state new.design.design new.script (record results { found = found })))
    own_keeps err = by r err
      where
        by : (r : Result Reply Memory) → OnErr r ((new ≡ old) × (found ≡ results.found)) → OnErr r (KeepsAll v (own_state new.design.design new.script (record results { found = found })))
        by (Ok reply) err = tt
        by (Err memory) err =
            keeps_same v (own_state new.design.design new.script (record results { found = found }))
            (ap (λ (p : Present). own_state p.design.design p.script (record results { found = found })) err.0 ∙ is)

    -- a step of the present design and script is one of the desk
    pub own_step : (command : Command) → ((kept : List KeptKey) → IfOk r (λ reply. IsStep command (state_with kept old) reply (state_with kept new)))
        → IfOk r (λ reply. IsStep command v reply (own_state new.design.design new.script (record results { found = found })))
    own_step command steps =
        subst (λ (w : State). IfOk r (λ reply. IsStep command w reply (own_state new.design.design new.script (record results { found = found })))) is
        (steps (kept_in results.ages.keys results.ages.ages.items))
