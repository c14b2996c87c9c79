use Rattle.std.proofs.Common.{sym, ap, ◌∙◌}
use Rattle.result_cache.specs.Claims.{holder_of}
use Rattle.result_cache.proofs.Calls.{found_at, none_here, mode_found, mode_absent}
use Rattle.result_cache.proofs.Sounds.{not_held}
use Rattle.result_cache.proofs.shard.Shard.holder.Goals as goal

pub returns-in-None : goal.returns-in-None
returns-in-None g c = record { value = ap holder_of (sym (mode_absent c.self.invariant c.self.view_is (none_here c.in-None.ensures.found c.as_slice.ensures.value))) }

pub returns-in-Held : goal.returns-in-Held
returns-in-Held g c = record {
  value = ap holder_of (sym (mode_found _ c.self.invariant c.self.view_is (found_at c.in-Some.ensures.within c.in-Some.ensures.text c.as_slice.ensures.value) (sym c.index.ensures ∙ c.in-Held.is)));
}

pub returns-in_default : goal.returns-in_default
returns-in_default g c = record {
  value = not_held c.index.result.now c.in_default.not-Held ∙ ap holder_of (sym (mode_found _ c.self.invariant c.self.view_is (found_at c.in-Some.ensures.within c.in-Some.ensures.text c.as_slice.ensures.value) (sym c.index.ensures)));
}
