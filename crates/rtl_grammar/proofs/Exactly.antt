-- Items with a first fault are refused with it, whatever items do.
use Rattle.std.proofs.Common.{◌≡◌, List, [], ◌∷◌, ◌++◌, Option, Some, None, Result, Ok, Err, true, false, refl, sym, ap, subst, ◌∙◌, append_assoc, inl, inr}
use Rattle.rtl_lex.specs.declared.sort.Sort.{Sort}
use Rattle.rtl_lex.specs.Items.{Seen}
use Rattle.rtl_grammar.specs.declared.expect.Expect.{Expect}
use Rattle.rtl_grammar.specs.Grammar.{after, Derives}
use Rattle.rtl_grammar.specs.Uses.{Use, roles_of, items_of, sorts_of, Action, run, ◌>>=◌}
use Rattle.rtl_grammar.proofs.ReadOn.{step, read_on}
use Rattle.rtl_grammar.proofs.Table.{is_stack, is_finish, stack_next}
use Rattle.rtl_grammar.proofs.Reading.{AreClosed, BeginsNoneFrom, IsFault, stepped, ending, ends, some_is}

-- the sorts of the uses before, and then of these
sorts_then : (before uses : List Use) → sorts_of (before ++ uses) ≡ sorts_of before ++ sorts_of uses
sorts_then [] uses = refl
sorts_then (u ∷ us) uses = ap (λ (x : List Sort). u.item.sort ∷ x) (sorts_then us uses)

not_last : (i : Seen) (is : List Seen) (here : Seen) (rest : List Seen) → AreClosed (i ∷ (is ++ here ∷ rest)) → (is_finish i.sort ≡ false) × AreClosed (is ++ here ∷ rest)
not_last i [] here rest (inl last) = absurd cc
not_last i (x ∷ is) here rest (inl last) = absurd cc
not_last i is here rest (inr more) = more

module _ {S F : Type 0} (act : Action S F) (refusal : Seen → F) (cut : F) where
  abbrev reading : List Seen → List Expect → S → Result S F
  reading is roles s = read_on act refusal cut is roles s

  -- where reading stands behind these uses
  record Reaches (before : List Use) (roles : List Expect) (s state : S) (here : Seen) (rest : List Seen) : Type 0 where
    left : List Expect
    reads : reading (items_of before ++ here ∷ rest) roles s ≡ reading (here ∷ rest) left state
    stands : is_stack left ≡ true
    back : (uses : List Use) → Derives left (roles_of uses) → Derives roles (roles_of (before ++ uses))
    on : (uses : List Use) → Derives roles (roles_of (before ++ uses)) → Derives left (roles_of uses)

  ok_state : (x : S) (f : S → Result S F) (z : Result S F) → z ≡ Ok x → (z >>= f) ≡ f x
  ok_state x f z e = ap (λ (r : Result S F). r >>= f) e

  meant_first : (r : Result S F) (f : S → Result S F) (last : S) → (r >>= f) ≡ Ok last → (next : S) × (r ≡ Ok next) × (f next ≡ Ok last)
  meant_first (Ok n) f last e = (n, refl, e)
  meant_first (Err x) f last e = absurd cc

  abbrev fine : S → Result S F
  fine s = Ok s

  ok_same : (s t : S) → fine s ≡ fine t → s ≡ t
  ok_same s t e = cc

  reaches : (before more : List Use) (roles : List Expect) (s state : S) (here : Seen) (rest : List Seen) → Derives roles (roles_of (before ++ more)) → run act s before ≡ Ok state → AreClosed (items_of before ++ here ∷ rest) → is_stack roles ≡ true → Reaches before roles s state here rest
  reaches [] more roles s state here rest d m c st = record {
    left = roles;
    reads = ap (reading (here ∷ rest) roles) (ok_same s state m);
    stands = st;
    back = λ uses x. x;
    on = λ uses x. x;
  }
  reaches (u ∷ us) more [] s state here rest d m c st = absurd d
  reaches (u ∷ us) more (role ∷ roles) s state here rest d m c st =
      let body = d.1.0 in
      let b : after role u.item.sort ≡ Some body = d.1.1 in
      let one = meant_first (act u.role u.item s) (λ n. run act n us) state m in
      let acts : act role u.item s ≡ Ok one.0 = ap (λ (r : Expect). act r u.item s) (sym d.0) ∙ one.1 in
      let closed = not_last u.item (items_of us) here rest c in
      let more_of = reaches us more (body ++ roles) one.0 state here rest d.1.2 one.2 closed.1 (stack_next role u.item.sort body roles b closed.0 st) in
      record {
        left = more_of.left;
        reads = stepped act refusal cut u.item (items_of us ++ here ∷ rest) role roles body s b ∙ ok_state one.0 (λ n. reading (items_of us ++ here ∷ rest) (body ++ roles) n) (act role u.item s) acts ∙ more_of.reads;
        stands = more_of.stands;
        back = λ uses x. (d.0, (body, b, more_of.back uses x));
        on = λ uses x. more_of.on uses (subst (λ (y : List Expect). Derives (y ++ roles) (roles_of (us ++ uses))) (some_is x.1.0 body (sym x.1.1 ∙ b)) x.1.2);
      }

  -- the item that no text of the grammar has here is refused
  at_none : (before : List Use) (here : Seen) (rest : List Seen) (state : S) (roles left : List Expect) → BeginsNoneFrom roles (sorts_of before ++ here.sort ∷ []) → ((uses : List Use) → Derives left (roles_of uses) → Derives roles (roles_of (before ++ uses))) → is_stack left ≡ true → reading (here ∷ rest) left state ≡ Err (refusal here)
  unfolding read_on
  at_none before here rest state roles [] none back st = absurd cc
  at_none before here rest state roles (role ∷ left) none back st = pick (after role here.sort) refl
    where
      pick : (o : Option (List Expect)) → after role here.sort ≡ o → step refusal o here (act role here state) (λ body n. reading rest (body ++ left) n) ≡ Err (refusal here)
      pick None o = refl
      pick (Some body) o =
          let uses : List Use = record { role = role; item = here } ∷ ending (body ++ left) in
          absurd (none (before ++ uses) (sorts_of (ending (body ++ left))) (back uses (refl, (body, o, ends (body ++ left)))) (sorts_then before uses ∙ sym (append_assoc (sorts_of before) (here.sort ∷ []) (sorts_of (ending (body ++ left))))))

  -- the item that has a fault here is refused with it
  at_fault : (role : Expect) (others : List Use) (here : Seen) (rest : List Seen) (state : S) (left : List Expect) (fault : F) → Derives left (roles_of (record { role = role; item = here } ∷ others)) → act role here state ≡ Err fault → reading (here ∷ rest) left state ≡ Err fault
  at_fault role others here rest state [] fault d a = absurd d
  at_fault role others here rest state (top ∷ left) fault d a =
      let b : after top here.sort ≡ Some d.1.0 = d.1.1 in
      let acts : act top here state ≡ Err fault = ap (λ (r : Expect). act r here state) (sym d.0) ∙ a in
      stepped act refusal cut here rest top left d.1.0 state b ∙ ap (λ (r : Result S F). r >>= λ n. reading rest (d.1.0 ++ left) n) acts

  -- items with a fault are refused with it
  pub fault_reads : (is : List Seen) (roles : List Expect) (s : S) (fault : F) → IsFault act refusal cut is roles s fault → AreClosed is → is_stack roles ≡ true → reading is roles s ≡ Err fault
  fault_reads is roles s fault f closed st =
      let at = reaches f.before f.more roles s f.state f.here f.rest f.begins f.meant (subst AreClosed f.items closed) st in
      ap (λ (x : List Seen). reading x roles s) f.items ∙ at.reads ∙ elim f.cause as (λ x. reading (f.here ∷ f.rest) at.left f.state ≡ Err fault) [
        | inl none ↦ at_none f.before f.here f.rest f.state roles at.left none.0 at.back at.stands ∙ ap (λ (x : F). Err x) (sym none.1)
        | inr some ↦ at_fault some.0 some.1 f.here f.rest f.state at.left fault (at.on (record { role = some.0; item = f.here } ∷ some.1) some.2) some.3
      ]
