-- The replies of several desks, put together in the order of the input.
use Rattle.std.proofs.Common.{◌≡◌, ◌≢◌, ◌⊎◌, inl, inr, ℕ, zero, suc, ◌+◌, ◌-◌, ◌≤◌, ◌<◌, List, [], ◌∷◌, ◌++◌, Bool, true, false, true≢false, length, map, take, drop, refl, sym, ap, subst, ◌∙◌, arith}
use Rattle.std.specs.Prelude.{◌==◌, ◌||◌, All, codes, slice_index_or, slice_set, if◌then◌else◌}
use Rattle.std.specs.List.{AllZip}
use Rattle.std.specs.Str.{bytes_eq}
use Rattle.std.proofs.lemmas.Bool.Decides.{nat_tests}
use Rattle.std.proofs.lemmas.List.{get_or-set_other, get_or-set_same}
use Rattle.std.proofs.lemmas.List.Elements.{All-head, All-tail}
use Rattle.rtl_sig.specs.Names.{has_name}
use Rattle.work_crew.proofs.Counting.{same_or}
use Rattle.many_desks.specs.Replies.{AreReplies, Replies}
use Rattle.script_core.specs.declared.word.Word.{Word}
use Rattle.desk_read.specs.declared.command.Command.{Command}
use Rattle.reply_lines.specs.declared.reply.Reply.{Reply}
use Rattle.reply_lines.specs.Lines.{error_reply}
use Rattle.desk_core.specs.Builds.{asked_by}
use Rattle.desk_core.specs.State.{Answer, State, answer, first_state}
use Rattle.desk_core.specs.Step.{IsStep}
use Rattle.synth_run.specs.Desks.{AreTurns, Part, Turn, command, desk_reply, has_error, keys_in, parts_in, states_after, stray, text_in, to}
use Rattle.synth_run.specs.Routes.{AreLists, Holds, IsOf, IsRouter, any_error, bytes_of, commands_for, left_after, left_to, replies_to, tag_of}
use Rattle.synth_run.specs.declared.routes.Router.{Router}
use Rattle.synth_run.proofs.Only.{same_answer}
use Rattle.synth_run.proofs.Speaking.{any_both}

-- ---- what commands ask for

-- these are the replies to commands from a state on, and the keys that the commands ask for
abbrev pub AreAsked : State → List Command → List Reply → List (List ℕ) → Type 0
AreAsked s [] [] keys = keys ≡ []
AreAsked s (c ∷ cs) (r ∷ rs) keys =
    (t : State) × (more : List (List ℕ)) × IsStep c s r t × AreAsked t cs rs more × (keys ≡ asked_by c s ++ more)
AreAsked s cs rs keys = ⊥

replies_asked : (s : State) (cs : List Command) (rs : List Reply) (last : State) → AreReplies IsStep cs s rs last → (keys : List (List ℕ)) × AreAsked s cs rs keys
replies_asked s [] [] last h = ([], refl)
replies_asked s (c ∷ cs) (r ∷ rs) last (t, step, rest) =
    let more = replies_asked t cs rs last rest in
    (asked_by c s ++ more.0, (t, more.0, step, more.1, refl))
replies_asked s [] (r ∷ rs) last h = absurd h
replies_asked s (c ∷ cs) [] last h = absurd h

-- the replies tell the keys
pub same_asked : (s : State) (cs : List Command) (rs : List Reply) (keys other : List (List ℕ)) → AreAsked s cs rs keys → AreAsked s cs rs other → keys ≡ other
same_asked s [] [] keys other f g = f ∙ sym g
same_asked s (c ∷ cs) (r ∷ rs) keys other (t, more, step, rest, is) (t', more', step', rest', is') =
    let after : t ≡ t' = ap (λ (a : Answer). a.after) (same_answer c s (answer r t) (answer r t') step step') in
    let same : more ≡ more' = same_asked t' cs rs more more' (subst (λ (x : State). AreAsked x cs rs more) after rest) rest' in
    is ∙ ap (λ (l : List (List ℕ)). asked_by c s ++ l) same ∙ sym is'
same_asked s [] (r ∷ rs) keys other f g = absurd f
same_asked s (c ∷ cs) [] keys other f g = absurd f

-- so of each desk
abbrev pub AllAsked : State → List (List Command) → List (List Reply) → List (List (List ℕ)) → Type 0
AllAsked s [] [] [] = Unit {0}
AllAsked s (cs ∷ lists) (rs ∷ answers) (ks ∷ keys) = AreAsked s cs rs ks × AllAsked s lists answers keys
AllAsked s lists answers keys = ⊥

pub all_asked : (s : State) (lists : List (List Command)) (answers : List (List Reply)) → AllZip (Replies IsStep s) lists answers
    → (keys : List (List (List ℕ))) × AllAsked s lists answers keys
all_asked s [] [] h = ([], tt)
all_asked s (cs ∷ lists) (rs ∷ answers) (one, others) =
    let here = replies_asked s cs rs one.0 one.1 in
    let more = all_asked s lists answers others in
    (here.0 ∷ more.0, (here.1, more.1))
all_asked s [] (rs ∷ answers) h = absurd h
all_asked s (cs ∷ lists) [] h = absurd h

pub asked_count : (s : State) (lists : List (List Command)) (answers : List (List Reply)) (keys : List (List (List ℕ))) → AllAsked s lists answers keys
    → length answers ≡ length lists
asked_count s [] [] [] h = refl
asked_count s (cs ∷ lists) (rs ∷ answers) (ks ∷ keys) h = ap suc (asked_count s lists answers keys h.1)
asked_count s [] [] (ks ∷ keys) h = absurd h
asked_count s [] (rs ∷ answers) keys h = absurd h
asked_count s (cs ∷ lists) [] keys h = absurd h
asked_count s (cs ∷ lists) (rs ∷ answers) [] h = absurd h

-- ---- the turns

abbrev pub replies_in : List Turn → List Reply
replies_in = map (λ (turn : Turn). turn.reply)

pub text_is : (turns : List Turn) → text_in turns ≡ bytes_of (replies_in turns)
text_is [] = refl
text_is (turn ∷ turns) = ap (λ (l : List ℕ). turn.reply.text ++ l) (text_is turns)

pub error_is : (turns : List Turn) → has_error turns ≡ any_error (replies_in turns)
error_is [] = refl
error_is (turn ∷ turns) = ap (λ (t : Bool). turn.reply.error || t) (error_is turns)

pub or_left : (a b : Bool) → a ≡ true → (a || b) ≡ true
or_left true b h = refl
or_left false b h = absurd (true≢false (sym h))

pub or_right : (a b : Bool) → b ≡ true → (a || b) ≡ true
or_right true b h = refl
or_right false b h = h

or_either : (a b : Bool) → (a || b) ≡ true → (a ≡ true) ⊎ (b ≡ true)
or_either true b h = inl refl
or_either false b h = inr h

-- a key among others
pub has_left : (xs ys : List (List ℕ)) (q : List ℕ) → has_name xs q ≡ true → has_name (xs ++ ys) q ≡ true
has_left xs ys q h = any_both (bytes_eq q) xs ys ∙ or_left (has_name xs q) (has_name ys q) h

pub has_right : (xs ys : List (List ℕ)) (q : List ℕ) → has_name ys q ≡ true → has_name (xs ++ ys) q ≡ true
has_right xs ys q h = any_both (bytes_eq q) xs ys ∙ or_right (has_name xs q) (has_name ys q) h

has_either : (xs ys : List (List ℕ)) (q : List ℕ) → has_name (xs ++ ys) q ≡ true → (has_name xs q ≡ true) ⊎ (has_name ys q ≡ true)
has_either xs ys q h = or_either (has_name xs q) (has_name ys q) (sym (any_both (bytes_eq q) xs ys) ∙ h)

same_is : (a b : ℕ) → a ≡ b → (a == b) ≡ true
same_is a b h = grind (arith, nat_tests)

other_is : (a b : ℕ) → a ≢ b → (a == b) ≡ false
other_is a b h = grind (arith, nat_tests)

-- each desk, of so many, has these replies left to its commands among parts, which ask for these keys
abbrev pub AsksAll : ℕ → (ℕ → State) → List Part → List (List Reply) → (ℕ → List (List ℕ)) → Type 0
AsksAll n states parts left keys =
    (desk : ℕ) → 1 ≤ desk → desk ≤ n → AreAsked (states desk) (commands_for desk parts) (left_to desk left) (keys desk)

-- the parts are answered in turn with these replies, and ask for the keys of each desk
pub record AreAnswered (n : ℕ) (states : ℕ → State) (parts : List Part) (left : List (List Reply)) (keys : ℕ → List (List ℕ)) : Type 0 where
  pub turns : List Turn
  pub steps : AreTurns states turns
  pub parts_are : parts_in turns ≡ parts
  pub replies : replies_in turns ≡ replies_to (map tag_of parts) left
  pub ask : (desk : ℕ) (q : List ℕ) → 1 ≤ desk → desk ≤ n → has_name (keys desk) q ≡ true → has_name (keys_in turns) q ≡ true

-- the first of the replies that a desk has left
record FirstLeft (s : State) (c : Command) (cs : List Command) (rs : List Reply) (keys : List (List ℕ)) : Type 0 where
  reply : Reply
  rest : List Reply
  after : State
  more : List (List ℕ)
  are : rs ≡ reply ∷ rest
  step : IsStep c s reply after
  asks : AreAsked after cs rest more
  keys_are : keys ≡ asked_by c s ++ more

first_left : (s : State) (c : Command) (cs : List Command) (rs : List Reply) (keys : List (List ℕ)) → AreAsked s (c ∷ cs) rs keys → FirstLeft s c cs rs keys
first_left s c cs [] keys h = absurd h
first_left s c cs (r ∷ rs) keys (t, more, step, asks, is) = record { reply = r; rest = rs; after = t; more = more; are = refl; step = step; asks = asks; keys_are = is }

no_keys : (s : State) (rs : List Reply) (keys : List (List ℕ)) (q : List ℕ) → AreAsked s [] rs keys → has_name keys q ≡ true → ⊥
no_keys s [] keys q h is = true≢false (sym is ∙ ap (λ (l : List (List ℕ)). has_name l q) h)
no_keys s (r ∷ rs) keys q h is = h

-- a part that is no command
plain : (n : ℕ) (states : ℕ → State) (part : Part) (parts : List Part) (left : List (List Reply)) (keys : ℕ → List (List ℕ)) (turn : Turn) → turn.part ≡ part
    → ((turns : List Turn) → AreTurns states turns → AreTurns states (turn ∷ turns)) → ((turns : List Turn) → keys_in (turn ∷ turns) ≡ keys_in turns)
    → ((turns : List Turn) → replies_in turns ≡ replies_to (map tag_of parts) left → replies_in (turn ∷ turns) ≡ replies_to (map tag_of (part ∷ parts)) left)
    → AreAnswered n states parts left keys → AreAnswered n states (part ∷ parts) left keys
plain n states part parts left keys turn is steps asks replies rest = record {
  turns = turn ∷ rest.turns;
  steps = steps rest.turns rest.steps;
  parts_are = ap (λ (p : Part). p ∷ parts_in rest.turns) is ∙ ap (λ (l : List Part). part ∷ l) rest.parts_are;
  replies = replies rest.turns rest.replies;
  ask = λ desk q some few has. ap (λ (l : List (List ℕ)). has_name l q) (asks rest.turns) ∙ rest.ask desk q some few has;
}

module _ (n : ℕ) (states : ℕ → State) (d : ℕ) (c : Command) (parts : List Part) (left : List (List Reply)) (keys : ℕ → List (List ℕ)) (long : length left ≡ n)
    (some : 1 ≤ d) (few : d ≤ n) (asks : AsksAll n states (command d c ∷ parts) left keys) where
  own : AreAsked (states d) (c ∷ commands_for d parts) (left_to d left) (keys d)
  own = subst (λ (t : Bool). AreAsked (states d) (if t then c ∷ commands_for d parts else commands_for d parts) (left_to d left) (keys d)) (same_is d d refl) (asks d some few)

  head : FirstLeft (states d) c (commands_for d parts) (left_to d left) (keys d)
  head = first_left (states d) c (commands_for d parts) (left_to d left) (keys d) own

  abbrev turn_of : Turn
  turn_of = record { part = command d c; before = states d; reply = head.reply; after = head.after }

  abbrev states_then : ℕ → State
  states_then = states_after states (command d c) head.after

  abbrev left_then : List (List Reply)
  left_then = left_after (tag_of (command d c)) left

  abbrev keys_then : ℕ → List (List ℕ)
  keys_then e = if e == d then head.more else keys e

  own_then : left_to d left_then ≡ head.rest
  own_then = get_or-set_same left (d - 1) (drop 1 (left_to d left)) [] (omega (arith, long, some, few)) ∙ ap (drop 1) head.are

  others_then : (e : ℕ) → 1 ≤ e → e ≢ d → left_to e left_then ≡ left_to e left
  others_then e one ne = get_or-set_other left (d - 1) (e - 1) (drop 1 (left_to d left)) [] (λ same. ne (omega (arith, same, some, one)))

  asks_then : AsksAll n states_then parts left_then keys_then
  asks_then e one most = by (same_or e d)
    where
      by : (e ≡ d) ⊎ (e ≢ d) → AreAsked (states_then e) (commands_for e parts) (left_to e left_then) (keys_then e)
      by (inl is) =
          subst (λ (x : ℕ). AreAsked (states_then x) (commands_for x parts) (left_to x left_then) (keys_then x)) (sym is)
          (subst (λ (t : Bool). AreAsked (if t then head.after else states d) (commands_for d parts) (left_to d left_then) (if t then head.more else keys d)) (sym (same_is d d refl))
          (subst (λ (rs : List Reply). AreAsked head.after (commands_for d parts) rs head.more) (sym own_then) head.asks))
      by (inr ne) =
          subst (λ (t : Bool). AreAsked (if t then head.after else states e) (commands_for e parts) (left_to e left_then) (if t then head.more else keys e)) (sym (other_is e d ne))
          (subst (λ (rs : List Reply). AreAsked (states e) (commands_for e parts) rs (keys e)) (sym (others_then e one ne))
          (subst (λ (t : Bool). AreAsked (states e) (if t then c ∷ commands_for e parts else commands_for e parts) (left_to e left) (keys e)) (other_is d e (λ same. ne (sym same))) (asks e one most)))

  -- a command of a desk
  answered : AreAnswered n states_then parts left_then keys_then → AreAnswered n states (command d c ∷ parts) left keys
  answered rest = record {
    turns = turn_of ∷ rest.turns;
    steps = ((refl, head.step), rest.steps);
    parts_are = ap (λ (l : List Part). command d c ∷ l) rest.parts_are;
    replies =
        ap (λ (l : List Reply). head.reply ∷ l) rest.replies
        ∙ ap (λ (rs : List Reply). take 1 rs ++ replies_to (map tag_of parts) left_then) (sym head.are);
    ask = λ e q one most has. by e q one most (same_or e d) has;
  }
    where
      by : (e : ℕ) (q : List ℕ) → 1 ≤ e → e ≤ n → (e ≡ d) ⊎ (e ≢ d) → has_name (keys e) q ≡ true → has_name (asked_by c (states d) ++ keys_in rest.turns) q ≡ true
      by e q one most (inl is) has =
          split (has_either (asked_by c (states d)) head.more q (sym (ap (λ (l : List (List ℕ)). has_name l q) (ap keys is ∙ head.keys_are)) ∙ has))
        where
          split : (has_name (asked_by c (states d)) q ≡ true) ⊎ (has_name head.more q ≡ true) → has_name (asked_by c (states d) ++ keys_in rest.turns) q ≡ true
          split (inl h) = has_left (asked_by c (states d)) (keys_in rest.turns) q h
          split (inr h) =
              has_right (asked_by c (states d)) (keys_in rest.turns) q
              (rest.ask e q one most (ap (λ (t : Bool). has_name (if t then head.more else keys e) q) (same_is e d is) ∙ h))
      by e q one most (inr ne) has =
          has_right (asked_by c (states d)) (keys_in rest.turns) q
          (rest.ask e q one most (ap (λ (t : Bool). has_name (if t then head.more else keys e) q) (other_is e d ne) ∙ has))

-- the commands of parts are of so many desks
abbrev AreOf : ℕ → List Part → Type 0
AreOf n [] = Unit {0}
AreOf n (part ∷ parts) = IsOf n (tag_of part) × AreOf n parts

are_of : (n : ℕ) (parts : List Part) → All (IsOf n) (map tag_of parts) → AreOf n parts
are_of n [] h = tt
are_of n (part ∷ parts) h =
    (All-head (IsOf n) (tag_of part) (map tag_of parts) h, are_of n parts (All-tail (IsOf n) (tag_of part) (map tag_of parts) h))

pub set_long : {A : Type 0} (xs : List A) (k : ℕ) (x : A) → length (slice_set xs k x) ≡ length xs
set_long [] k x = refl
set_long (y ∷ xs) zero x = refl
set_long (y ∷ xs) (suc k) x = ap suc (set_long xs k x)

pub all_answered : (n : ℕ) (parts : List Part) (states : ℕ → State) (left : List (List Reply)) (keys : ℕ → List (List ℕ)) → length left ≡ n → AreOf n parts
    → AsksAll n states parts left keys → AreAnswered n states parts left keys
all_answered n [] states left keys long are asks = record {
  turns = [];
  steps = tt;
  parts_are = refl;
  replies = refl;
  ask = λ desk q some few has. absurd (no_keys (states desk) (left_to desk left) (keys desk) q (asks desk some few) has);
}
all_answered n (command d c ∷ parts) states left keys long are asks =
    let range = are.0 in
    answered n states d c parts left keys long range.0 range.1 asks
    (all_answered n parts (states_then n states d c parts left keys long range.0 range.1 asks) (left_then n states d c parts left keys long range.0 range.1 asks)
    (keys_then n states d c parts left keys long range.0 range.1 asks) (set_long left (d - 1) (drop 1 (left_to d left)) ∙ long) are.1
    (asks_then n states d c parts left keys long range.0 range.1 asks))
all_answered n (to d ∷ parts) states left keys long are asks =
    plain n states (to d) parts left keys (record { part = to d; before = states 0; reply = desk_reply d; after = states 0 }) refl (λ turns h. (refl, h)) (λ turns. refl)
    (λ turns h. ap (λ (l : List Reply). desk_reply d ∷ l) h) (all_answered n parts states left keys long are.1 asks)
all_answered n (stray ∷ parts) states left keys long are asks =
    plain n states stray parts left keys (record { part = stray; before = states 0; reply = error_reply (codes "21"); after = states 0 }) refl (λ turns h. (refl, h)) (λ turns. refl)
    (λ turns h. ap (λ (l : List Reply). error_reply (codes "21") ∷ l) h) (all_answered n parts states left keys long are.1 asks)

-- ---- the parts that a router holds

-- the keys of a desk
abbrev pub keys_at : List (List (List ℕ)) → ℕ → List (List ℕ)
keys_at keys desk = slice_index_or keys (desk - 1) []

asks_at : (s : State) (first k : ℕ) (parts : List Part) (lists : List (List Command)) (answers : List (List Reply)) (keys : List (List (List ℕ))) → k < length lists
    → AreLists first parts lists → AllAsked s lists answers keys
    → AreAsked s (commands_for (first + k) parts) (slice_index_or answers k []) (slice_index_or keys k [])
asks_at s first k parts [] answers keys lt are h = absurd (omega (arith, lt))
asks_at s first k parts (cs ∷ lists) [] keys lt are h = absurd h
asks_at s first k parts (cs ∷ lists) (rs ∷ answers) [] lt are h = absurd h
asks_at s first zero parts (cs ∷ lists) (rs ∷ answers) (ks ∷ keys) lt are h =
    let e : first ≡ first + 0 = omega arith in
    subst (λ (d : ℕ). AreAsked s (commands_for d parts) rs ks) e (subst (λ (l : List Command). AreAsked s l rs ks) are.0 h.0)
asks_at s first (suc k) parts (cs ∷ lists) (rs ∷ answers) (ks ∷ keys) lt are h =
    let e : (first + 1) + k ≡ first + suc k = omega arith in
    subst (λ (d : ℕ). AreAsked s (commands_for d parts) (slice_index_or answers k []) (slice_index_or keys k [])) e
    (asks_at s (first + 1) k parts lists answers keys (omega (arith, lt)) are.1 h.1)

-- the parts that a router holds are answered in turn with the answers to its lists
pub router_answered : (script : List Word) (router : Router) (parts : List Part) (answers : List (List Reply)) (keys : List (List (List ℕ))) → IsRouter router → Holds parts router
    → AllAsked (first_state script) router.lists.items answers keys
    → AreAnswered (length router.lists.items) (λ desk. first_state script) parts answers (keys_at keys)
router_answered script router parts answers keys is holds asked =
    let n = length router.lists.items in
    all_answered n parts (λ desk. first_state script) answers (keys_at keys) (asked_count (first_state script) router.lists.items answers keys asked)
    (are_of n parts (subst (All (IsOf n)) holds.tags is.tags))
    (λ desk some few.
    let e : 1 + (desk - 1) ≡ desk = omega (arith, some) in
    subst (λ (d : ℕ). AreAsked (first_state script) (commands_for d parts) (left_to desk answers) (keys_at keys desk)) e
    (asks_at (first_state script) 1 (desk - 1) parts router.lists.items answers keys (omega (arith, some, few)) holds.lists asked))
