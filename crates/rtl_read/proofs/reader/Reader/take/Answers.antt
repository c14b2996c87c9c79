use Rattle.rtl_read.proofs.Taking.{take_none, take_refused, take_failed, take_on}
use Rattle.rtl_read.proofs.reader.Reader.take.Goals as goal

pub returns-in_default : goal.returns-in_default
returns-in_default c = take_none _ _ _ _ c.in_default.ensures.value.0 c.refusal.ensures

pub returns-in_default-after : goal.returns-in_default-after
returns-in_default-after c = take_refused _ _ c.in-Some.role _ _ _ c.in-Some.ensures.value c.in_default-after.ensures c.refusal-in_default-after.ensures

pub returns-in-Err : goal.returns-in-Err
returns-in-Err c = take_failed _ _ _ c.in-Some.role _ _ _ c.in-Some.ensures.value c.in-Some-after.ensures c.in-Err.ensures

pub returns : goal.returns
returns c = take_on _ _ _ _ c.in-Some.role _ _ _ c.in-Some.ensures.value c.in-Some-after.ensures c.in_default-act.ensures c.in_ok-raise.ensures.ok
