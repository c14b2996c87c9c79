-- A desk on its way through its commands.
use Rattle.std.proofs.Common.{◌≡◌, ℕ, ◌+◌, ◌<◌, ◌≤◌, List, [], ◌∷◌, ◌++◌, length, drop, get_or, refl, sym, ap, ◌∙◌, subst, arith, append_assoc}
use Rattle.std.proofs.lemmas.List.{at_drop_more, at_drop_all}
use Rattle.rtl_bits.specs.Counts.{risen}
use Rattle.result_cache.specs.Seats.{Seated}
use Rattle.work_crew.proofs.Steps.{risen_more}
use Rattle.many_desks.specs.Replies.{Replies}
use Rattle.many_desks.specs.Serving.{Does}

append_nil : {A : Type 0} (xs : List A) → xs ++ [] ≡ xs
append_nil [] = refl
append_nil (x ∷ xs) = ap (λ ys. x ∷ ys) (append_nil xs)

module _ {S C R : Type 0} (steps : C → S → R → S → Type 0) (does : C → S → Seated → Seated → ℕ → Type 0) (first : S) (commands : List C) (seat : Seated) (old : ℕ) where
  -- a desk on its way: what it replies to the commands that are left, from its present state on, it replies after the
  -- replies so far to all of them
  pub record OnItsWay (left : List C) (state : S) (replies : List R) (at : Seated) (now : ℕ) : Type 0 where
    pub ticks : ℕ
    pub meter : now ≡ risen old ticks
    pub told : (more : List R) → Replies steps state left more → Replies steps first commands (replies ++ more)
    pub done : (more : List R) (new : Seated) (n : ℕ) → Does steps does state left more at new n → Does steps does first commands (replies ++ more) seat new (ticks + n)

  begun : OnItsWay commands first [] seat old
  begun = record {
    ticks = 0;
    meter = omega arith;
    told = λ more h. h;
    done = λ more new n h. subst (Does steps does first commands more seat new) (let e : n ≡ 0 + n = omega arith in e) h;
  }

  -- no command was answered yet
  pub way_begins : (state : S) (replies : List R) → state ≡ first → replies ≡ [] → OnItsWay commands state replies seat old
  way_begins state replies starts none =
      subst (λ (s : S). OnItsWay commands s replies seat old) (sym starts) (subst (λ (rs : List R). OnItsWay commands first rs seat old) (sym none) begun)

  -- one command more was answered
  pub way_goes : (command : C) (left : List C) (state next : S) (replies : List R) (reply : R) (at to : Seated) (n now now' : ℕ) → OnItsWay (command ∷ left) state replies at now
      → steps command state reply next → now' ≡ risen now n → does command state at to n → OnItsWay left next (replies ++ reply ∷ []) to now'
  way_goes command left state next replies reply at to n now now' w step meter did = record {
    ticks = w.ticks + n;
    meter = meter ∙ ap (λ m. risen m n) w.meter ∙ risen_more old w.ticks n;
    told = λ more h. subst (Replies steps first commands) (sym (append_assoc replies (reply ∷ []) more)) (w.told (reply ∷ more) (h.0, (next, step, h.1)));
    done = λ more new b h.
        subst (λ (rs : List R). Does steps does first commands rs seat new ((w.ticks + n) + b)) (sym (append_assoc replies (reply ∷ []) more))
        (subst (Does steps does first commands (replies ++ reply ∷ more) seat new) (let e : w.ticks + (n + b) ≡ (w.ticks + n) + b = omega arith in e)
        (w.done (reply ∷ more) new (n + b) (next, to, n, b, step, did, h, refl)));
  }

  -- the command at a place was answered
  pub way_goes_at : (i : ℕ) (command : C) (state next : S) (replies : List R) (reply : R) (at to : Seated) (n now now' : ℕ) → i < length commands → command ≡ get_or commands i command → OnItsWay (drop i commands) state replies at now
      → steps command state reply next → now' ≡ risen now n → does command state at to n → OnItsWay (drop (i + 1) commands) next (replies ++ reply ∷ []) to now'
  way_goes_at i command state next replies reply at to n now now' lt is w step meter did =
      way_goes command (drop (i + 1) commands) state next replies reply at to n now now'
      (subst (λ (left : List C). OnItsWay left state replies at now) (at_drop_more (λ (xs : List C). xs) commands i command lt ∙ ap (λ (c : C). c ∷ drop (i + 1) commands) (sym is)) w)
      step meter did

  -- all commands were answered
  pub way_ends : (i : ℕ) (state : S) (replies : List R) (at : Seated) (now : ℕ) → length commands ≤ i → OnItsWay (drop i commands) state replies at now
      → Replies steps first commands replies × ((n : ℕ) × (now ≡ risen old n) × Does steps does first commands replies seat at n)
  way_ends i state replies at now past w =
      (subst (Replies steps first commands) (append_nil replies) (v.told [] (state, refl)), (v.ticks, v.meter, all))
    where
      v : OnItsWay [] state replies at now
      v = subst (λ (left : List C). OnItsWay left state replies at now) (at_drop_all (λ (xs : List C). xs) commands i past) w

      all : Does steps does first commands replies seat at v.ticks
      all =
          subst (λ (rs : List R). Does steps does first commands rs seat at v.ticks) (append_nil replies)
          (subst (Does steps does first commands (replies ++ []) seat at) (let e : v.ticks + 0 ≡ v.ticks = omega arith in e) (v.done [] at 0 (refl, refl)))
