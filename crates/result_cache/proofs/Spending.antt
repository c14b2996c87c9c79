-- The tickets of a seat, one call after another.
use Rattle.std.proofs.Common.{◌≡◌, ℕ, List, [], ◌∷◌, ◌++◌, Bool, true, false, cond, refl, ap, ◌∙◌}
use Rattle.std.specs.Str.{bytes_eq}
use Rattle.result_cache.specs.declared.call.Act.{Act}
use Rattle.result_cache.specs.declared.call.Act.TheVariants.{Hit, Busy, Yours, Fill, GiveBack, Forget}
use Rattle.result_cache.specs.declared.call.Call.{Call}
use Rattle.result_cache.specs.History.{call}
use Rattle.result_cache.specs.Tickets.{ticket_after, ticket_from, has_ticket, HoldsNoTicket, HoldsOnly}

from_snoc : (b : Bool) (q : List ℕ) (calls : List Call) (c : Call) → ticket_from b q (calls ++ c ∷ []) ≡ cond (bytes_eq c.key q) (ticket_after c.act (ticket_from b q calls)) (ticket_from b q calls)
from_snoc b q [] c = refl
from_snoc b q (x ∷ calls) c = from_snoc (cond (bytes_eq x.key q) (ticket_after x.act b) b) q calls c

pub ticket_snoc : (calls : List Call) (seat : ℕ) (key q : List ℕ) (act : Act) → has_ticket (calls ++ call seat key act ∷ []) q ≡ cond (bytes_eq key q) (ticket_after act (has_ticket calls q)) (has_ticket calls q)
ticket_snoc calls seat key q act = from_snoc false q calls (call seat key act)

same_either : (t b : Bool) → cond t b b ≡ b
same_either true b = refl
same_either false b = refl

either_true : (t : Bool) → cond t true false ≡ t
either_true true = refl
either_true false = refl

either_false : (t : Bool) → cond t false t ≡ false
either_false true = refl
either_false false = refl

pub none_after_hit : (calls : List Call) (seat number : ℕ) (key : List ℕ) → HoldsNoTicket calls → HoldsNoTicket (calls ++ call seat key (Hit number) ∷ [])
none_after_hit calls seat number key h q = ticket_snoc calls seat key q (Hit number) ∙ same_either (bytes_eq key q) (has_ticket calls q) ∙ h q

pub none_after_busy : (calls : List Call) (seat by : ℕ) (key : List ℕ) → HoldsNoTicket calls → HoldsNoTicket (calls ++ call seat key (Busy by) ∷ [])
none_after_busy calls seat by key h q = ticket_snoc calls seat key q (Busy by) ∙ same_either (bytes_eq key q) (has_ticket calls q) ∙ h q

pub same_after_forget : (calls : List Call) (seat number : ℕ) (key q : List ℕ) → has_ticket (calls ++ call seat key (Forget number) ∷ []) q ≡ has_ticket calls q
same_after_forget calls seat number key q = ticket_snoc calls seat key q (Forget number) ∙ same_either (bytes_eq key q) (has_ticket calls q)

pub none_after_forget : (calls : List Call) (seat number : ℕ) (key : List ℕ) → HoldsNoTicket calls → HoldsNoTicket (calls ++ call seat key (Forget number) ∷ [])
none_after_forget calls seat number key h q = same_after_forget calls seat number key q ∙ h q

pub one_after_yours : (calls : List Call) (seat : ℕ) (key : List ℕ) → HoldsNoTicket calls → HoldsOnly key (calls ++ call seat key Yours ∷ [])
one_after_yours calls seat key h q = ticket_snoc calls seat key q Yours ∙ ap (λ b. cond (bytes_eq key q) true b) (h q) ∙ either_true (bytes_eq key q)

pub none_after_fill : (calls : List Call) (seat number : ℕ) (key : List ℕ) → HoldsOnly key calls → HoldsNoTicket (calls ++ call seat key (Fill number) ∷ [])
none_after_fill calls seat number key h q = ticket_snoc calls seat key q (Fill number) ∙ ap (λ b. cond (bytes_eq key q) false b) (h q) ∙ either_false (bytes_eq key q)

pub none_after_return : (calls : List Call) (seat : ℕ) (key : List ℕ) → HoldsOnly key calls → HoldsNoTicket (calls ++ call seat key GiveBack ∷ [])
none_after_return calls seat key h q = ticket_snoc calls seat key q GiveBack ∙ ap (λ b. cond (bytes_eq key q) false b) (h q) ∙ either_false (bytes_eq key q)
