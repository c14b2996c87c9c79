-- A seat holds a key exactly where its own calls say so.
use Rattle.std.proofs.Common.{◌≡◌, ◌≢◌, ℕ, ◌↔◌, ◌+◌, List, [], ◌∷◌, Bool, true, false, cond, true≢false, eqb, refl, sym, ◌∙◌, subst, ⊎_elim}
use Rattle.std.specs.Str.{bytes_eq}
use Rattle.std.proofs.lemmas.Bool.Decides.{eqb_tells}
use Rattle.result_cache.specs.declared.call.Act.{Act}
use Rattle.result_cache.specs.declared.call.Act.TheVariants.{Hit, Busy, Yours, Fill, GiveBack, Forget}
use Rattle.result_cache.specs.declared.call.Call.{Call}
use Rattle.result_cache.specs.History.{Mode, free, held, filled, State, all_free, IsAllowed, mode_after, cache_step, state_from, state_after, IsLegalFrom, IsLegal}
use Rattle.result_cache.specs.Tickets.{calls_by, ticket_after, ticket_from, has_ticket}
use Rattle.result_cache.proofs.Keys.{bytes_true}

-- the mode is held by n exactly where b
abbrev Agrees : ℕ → Mode ℕ → Bool → Type 0
Agrees n m b = (m ≡ held n → b ≡ true) × (b ≡ true → m ≡ held n)

own_step : (k n : ℕ) (act : Act) (m : Mode ℕ) (b : Bool) → IsAllowed k n act m → Agrees n m b → Agrees n (mode_after n act m) (ticket_after act b)
own_step k n (Hit v) m b a h = h
own_step k n (Busy by) m b a h = h
own_step k n Yours m b a h = ((λ _. refl), (λ _. refl))
own_step k n (Fill v) m b a h = ((λ e. absurd (cc)), (λ e. absurd (true≢false (sym e))))
own_step k n GiveBack m b a h = ((λ e. absurd (cc)), (λ e. absurd (true≢false (sym e))))
own_step k n (Forget v) m b a h = ((λ e. absurd (cc)), (λ e. let x : filled v ≡ held n = sym a ∙ h.1 e in absurd (cc)))

-- a mode of a history
abbrev in_history : Mode ℕ → Mode ℕ
in_history mode = mode

held_same : (s n : ℕ) → in_history (held s) ≡ held n → s ≡ n
held_same s n e = cc

other_step : (k n seat : ℕ) (act : Act) (m : Mode ℕ) (b : Bool) → seat ≢ n → IsAllowed k seat act m → Agrees n m b → Agrees n (mode_after seat act m) b
other_step k n seat (Hit v) m b ne a h = h
other_step k n seat (Busy by) m b ne a h = h
other_step k n seat Yours m b ne a h = ((λ e. absurd (ne (held_same seat n e))), (λ e. let x : free ≡ held n = sym a ∙ h.1 e in absurd (cc)))
other_step k n seat (Fill v) m b ne a h = ((λ e. absurd (cc)), (λ e. absurd (ne (held_same seat n (sym a.0 ∙ h.1 e)))))
other_step k n seat GiveBack m b ne a h = ((λ e. absurd (cc)), (λ e. absurd (ne (held_same seat n (sym a ∙ h.1 e)))))
other_step k n seat (Forget v) m b ne a h = ((λ e. absurd (cc)), (λ e. let x : filled v ≡ held n = sym a ∙ h.1 e in absurd (cc)))

pub own_mode : (i n : ℕ) (k : List ℕ) (s : State) (b : Bool) (log : List Call) → IsLegalFrom i s log → Agrees n (s k) b → Agrees n (state_from s log k) (ticket_from b k (calls_by n log))
own_mode i n k s b [] h a = a
own_mode i n k s b (c ∷ cs) h a =
    let P : Bool → Type 0 = λ t. Agrees n (state_from (cache_step s c) cs k) (ticket_from b k (cond t (c ∷ calls_by n cs) (calls_by n cs))) in
    ⊎_elim
    (λ (t : (eqb c.seat n ≡ true) × (c.seat ≡ n)). subst P (sym t.0) (own_mode (i + 1) n k (cache_step s c) (cond (bytes_eq c.key k) (ticket_after c.act b) b) cs h.1 (mine t.1)))
    (λ (t : (eqb c.seat n ≡ false) × (c.seat ≢ n)). subst P (sym t.0) (own_mode (i + 1) n k (cache_step s c) b cs h.1 (others t.1)))
    (eqb_tells c.seat n)
  where
    mine : c.seat ≡ n → Agrees n (cache_step s c k) (cond (bytes_eq c.key k) (ticket_after c.act b) b)
    mine e =
        let P : Bool → Type 0 = λ t. bytes_eq c.key k ≡ t → Agrees n (cond t (mode_after c.seat c.act (s k)) (s k)) (cond t (ticket_after c.act b) b) in
        elim (bytes_eq c.key k) as P [
          | true ↦ λ is. subst (λ z. Agrees n (mode_after z c.act (s k)) (ticket_after c.act b)) (sym e)
              (own_step i n c.act (s k) b (subst (λ (x : ℕ × List ℕ). IsAllowed i x.0 c.act (s x.1)) (λ j. (e j, bytes_true c.key k is j)) h.0) a)
          | false ↦ λ is. a
        ] refl

    others : c.seat ≢ n → Agrees n (cache_step s c k) b
    others ne =
        let P : Bool → Type 0 = λ t. bytes_eq c.key k ≡ t → Agrees n (cond t (mode_after c.seat c.act (s k)) (s k)) b in
        elim (bytes_eq c.key k) as P [
          | true ↦ λ is. other_step i n c.seat c.act (s k) b ne (subst (λ z. IsAllowed i c.seat c.act (s z)) (bytes_true c.key k is) h.0) a
          | false ↦ λ is. a
        ] refl

-- a seat holds just the keys that it has the tickets of by its own calls
pub own_ticket : (calls : List Call) (seat : ℕ) (key : List ℕ) → IsLegal calls → (state_after calls key ≡ held seat) ↔ (has_ticket (calls_by seat calls) key ≡ true)
own_ticket calls seat key h = own_mode 0 seat key all_free false calls h ((λ x. absurd (cc)), (λ x. absurd (true≢false (sym x))))

-- no two seats have the ticket of one key
pub one_holder : (calls : List Call) (a b : ℕ) (key : List ℕ) → IsLegal calls → has_ticket (calls_by a calls) key ≡ true → has_ticket (calls_by b calls) key ≡ true → a ≡ b
one_holder calls a b key h of_a of_b = held_same a b (sym ((own_ticket calls a key h).1 of_a) ∙ (own_ticket calls b key h).1 of_b)
