-- Reading from left to right answers what a text means, or its first fault, whatever its items do.
use Rattle.std.proofs.Common.{◌≡◌, List, [], ◌∷◌, ◌++◌, map, Option, Some, None, Result, Ok, Err, true, false, refl, sym, ap, subst, ◌∙◌, inl, inr, ◌⊎◌}
use Rattle.rtl_lex.specs.declared.sort.Sort.{Sort}
use Rattle.rtl_lex.specs.declared.sort.Sort.TheVariants as sorts
use Rattle.rtl_lex.specs.Place.{start}
use Rattle.rtl_lex.specs.Items.{Seen}
use Rattle.rtl_grammar.specs.declared.expect.Expect.{Expect}
use Rattle.rtl_grammar.specs.Grammar.{after, Derives}
use Rattle.rtl_grammar.specs.Uses.{Use, roles_of, items_of, sorts_of, Action, run, ◌>>=◌}
use Rattle.rtl_grammar.proofs.ReadOn.{step, read_on}
use Rattle.rtl_grammar.proofs.Table.{is_stack, is_finish, stack_next, stack_end, bad_refused}
use Rattle.rtl_grammar.proofs.Viable.{closings, closes}

pub some_is : {A : Type 0} (x y : A) → Some x ≡ Some y → x ≡ y
some_is x y e = cc

-- ---- items that a text has

-- the last item ends a text or has a fault, and no other does
abbrev pub IsLast : Seen → Type 0
IsLast i = (i.sort ≡ sorts.Finish) ⊎ (i.sort ≡ sorts.Bad) ⊎ ((i.sort ≡ sorts.Int) × (i.number ≡ None))

abbrev pub AreClosed : List Seen → Type 0
AreClosed [] = ⊥
AreClosed (i ∷ is) = ((is ≡ []) × IsLast i) ⊎ ((is_finish i.sort ≡ false) × AreClosed is)

-- ---- uses that end what is expected

-- an item of a sort, and a use of it
pub dummy : Expect × Sort → Use
dummy p = record { role = p.0; item = record { sort = p.1; text = []; number = None; place = start } }

dummies : (ps : List (Expect × Sort)) → roles_of (map dummy ps) ≡ ps
unfolding dummy
dummies [] = refl
dummies (p ∷ ps) = ap (λ (x : List (Expect × Sort)). p ∷ x) (dummies ps)

abbrev pub ending : List Expect → List Use
ending roles = map dummy (closings roles)

-- whatever is expected, some uses end it
pub ends : (roles : List Expect) → Derives roles (roles_of (ending roles))
ends roles = subst (Derives roles) (sym (dummies (closings roles))) (closes roles)

-- no text of what is expected begins with these sorts
abbrev pub BeginsNoneFrom : List Expect → List Sort → Type 0
BeginsNoneFrom roles front = (uses : List Use) (more : List Sort) → Derives roles (roles_of uses) → sorts_of uses ≡ front ++ more → ⊥

-- an integer that is out of range has a fault where an integer may stand
abbrev pub RefusesNoNumber : {S F : Type 0} → Action S F → Type 0
RefusesNoNumber {S = S} {F = F} act = (role : Expect) (body : List Expect) (i : Seen) (s : S) → i.sort ≡ sorts.Int → i.number ≡ None → after role sorts.Int ≡ Some body → (f : F) × (act role i s ≡ Err f)

module _ {S F : Type 0} (act : Action S F) (refusal : Seen → F) (cut : F) where
  abbrev reading : List Seen → List Expect → S → Result S F
  reading is roles s = read_on act refusal cut is roles s

  -- ---- what is read is a text of the grammar, and means what was read

  pub record IsRead (is : List Seen) (roles : List Expect) (s last : S) : Type 0 where
    pub uses : List Use
    pub items : items_of uses ≡ is
    pub derives : Derives roles (roles_of uses)
    pub meant : run act s uses ≡ Ok last

  -- what is read on is read from here
  read_more : (i : Seen) (is : List Seen) (role : Expect) (roles body : List Expect) (s next last : S) → after role i.sort ≡ Some body → act role i s ≡ Ok next → IsRead is (body ++ roles) next last → IsRead (i ∷ is) (role ∷ roles) s last
  read_more i is role roles body s next last b a more = record {
    uses = record { role = role; item = i } ∷ more.uses;
    items = ap (λ x. i ∷ x) more.items;
    derives = (refl, (body, b, more.derives));
    meant = ap (λ (x : Result S F). x >>= λ y. run act y more.uses) a ∙ more.meant;
  }

  pub is_read : (is : List Seen) (roles : List Expect) (s last : S) → reading is roles s ≡ Ok last → IsRead is roles s last
  unfolding read_on
  is_read [] [] s last e = record { uses = []; items = refl; derives = tt; meant = e }
  is_read [] (role ∷ roles) s last e = absurd cc
  is_read (i ∷ is) [] s last e = absurd cc
  is_read (i ∷ is) (role ∷ roles) s last e =
      let on : (body : List Expect) (next : S) → reading is (body ++ roles) next ≡ Ok last → IsRead is (body ++ roles) next last = λ body next f. is_read is (body ++ roles) next last f in
      next_read (after role i.sort) refl on e
    where
      acted : (body : List Expect) → after role i.sort ≡ Some body → (r : Result S F) → act role i s ≡ r → ((next : S) → reading is (body ++ roles) next ≡ Ok last → IsRead is (body ++ roles) next last) → (r >>= λ n. reading is (body ++ roles) n) ≡ Ok last → IsRead (i ∷ is) (role ∷ roles) s last
      acted body b (Ok n) a on f = read_more i is role roles body s n last b a (on n f)
      acted body b (Err x) a on f = absurd cc

      next_read : (o : Option (List Expect)) → after role i.sort ≡ o → ((body : List Expect) (next : S) → reading is (body ++ roles) next ≡ Ok last → IsRead is (body ++ roles) next last) → step refusal o i (act role i s) (λ body n. reading is (body ++ roles) n) ≡ Ok last → IsRead (i ∷ is) (role ∷ roles) s last
      next_read None o on f = absurd cc
      next_read (Some body) o on f = acted body o (act role i s) refl (on body) f

  -- ---- a text of the grammar is read as what it means

  -- a step where the item may stand
  pub stepped : (i : Seen) (is : List Seen) (role : Expect) (roles body : List Expect) (s : S) → after role i.sort ≡ Some body → reading (i ∷ is) (role ∷ roles) s ≡ (act role i s >>= λ next. reading is (body ++ roles) next)
  unfolding read_on
  stepped i is role roles body s b = ap (λ (o : Option (List Expect)). step refusal o i (act role i s) (λ front n. reading is (front ++ roles) n)) b

  bind_same : (r : Result S F) (f g : S → Result S F) → ((n : S) → f n ≡ g n) → (r >>= f) ≡ (r >>= g)
  bind_same (Ok n) f g h = h n
  bind_same (Err x) f g h = refl

  pub reads_again : (uses : List Use) (roles : List Expect) (s : S) → Derives roles (roles_of uses) → reading (items_of uses) roles s ≡ run act s uses
  unfolding read_on
  reads_again [] [] s d = refl
  reads_again [] (role ∷ roles) s d = absurd d
  reads_again (u ∷ us) [] s d = absurd d
  reads_again (u ∷ us) (role ∷ roles) s d =
      let body = d.1.0 in
      let here : after role u.item.sort ≡ Some body = d.1.1 in
      let one = stepped u.item (items_of us) role roles body s here in
      let on : (n : S) → reading (items_of us) (body ++ roles) n ≡ run act n us = λ n. reads_again us (body ++ roles) n d.1.2 in
      let two = bind_same (act role u.item s) (λ n. reading (items_of us) (body ++ roles) n) (λ n. run act n us) on in
      one ∙ two ∙ ap (λ (r : Expect). act r u.item s >>= λ n. run act n us) (sym d.0)

  abbrev pub failure : F → Result S F
  failure x = Err x

  err_is : (x y : F) → failure x ≡ failure y → x ≡ y
  err_is x y e = cc

  -- ---- a fault is the first

  pub record IsFault (is : List Seen) (roles : List Expect) (s : S) (fault : F) : Type 0 where
    pub before : List Use
    pub here : Seen
    pub rest : List Seen
    pub state : S
    pub items : is ≡ items_of before ++ here ∷ rest
    pub more : List Use
    pub begins : Derives roles (roles_of (before ++ more))
    pub meant : run act s before ≡ Ok state
    pub cause : (BeginsNoneFrom roles (sorts_of before ++ here.sort ∷ []) × (fault ≡ refusal here))
        ⊎ ((role : Expect) × (others : List Use) × Derives roles (roles_of (before ++ record { role = role; item = here } ∷ others)) × (act role here state ≡ Err fault))

  -- the grammar refuses the first item
  refused : (i : Seen) (is : List Seen) (role : Expect) (roles : List Expect) (s : S) → after role i.sort ≡ None → IsFault (i ∷ is) (role ∷ roles) s (refusal i)
  refused i is role roles s none = record {
    before = [];
    here = i;
    rest = is;
    state = s;
    items = refl;
    more = ending (role ∷ roles);
    begins = ends (role ∷ roles);
    meant = refl;
    cause = inl (cannot, refl);
  }
    where
      cannot : (uses : List Use) (more : List Sort) → Derives (role ∷ roles) (roles_of uses) → sorts_of uses ≡ i.sort ∷ more → ⊥
      cannot [] more d e = absurd d
      cannot (u ∷ us) more d e = absurd (cc (none, d.1.1, e))

  -- the first item has a fault
  failed : (i : Seen) (is : List Seen) (role : Expect) (roles body : List Expect) (s : S) (fault : F) → after role i.sort ≡ Some body → act role i s ≡ Err fault → IsFault (i ∷ is) (role ∷ roles) s fault
  failed i is role roles body s fault b a = record {
    before = [];
    here = i;
    rest = is;
    state = s;
    items = refl;
    more = ending (role ∷ roles);
    begins = ends (role ∷ roles);
    meant = refl;
    cause = inr (role, ending (body ++ roles), (refl, (body, b, ends (body ++ roles))), a);
  }

  -- a later item has a fault
  later : (i : Seen) (is : List Seen) (role : Expect) (roles body : List Expect) (s next : S) (fault : F) → after role i.sort ≡ Some body → act role i s ≡ Ok next → IsFault is (body ++ roles) next fault → IsFault (i ∷ is) (role ∷ roles) s fault
  later i is role roles body s next fault b a f = record {
    before = record { role = role; item = i } ∷ f.before;
    here = f.here;
    rest = f.rest;
    state = f.state;
    items = ap (λ x. i ∷ x) f.items;
    more = f.more;
    begins = (refl, (body, b, f.begins));
    meant = ap (λ (x : Result S F). x >>= λ y. run act y f.before) a ∙ f.meant;
    cause = elim f.cause [
      | inl none ↦ inl (cannot none.0, none.1)
      | inr some ↦ inr (some.0, some.1, (refl, (body, b, some.2)), some.3)
    ];
  }
    where
      cannot : BeginsNoneFrom (body ++ roles) (sorts_of f.before ++ f.here.sort ∷ []) → (uses : List Use) (more : List Sort) → Derives (role ∷ roles) (roles_of uses) → sorts_of uses ≡ (i.sort ∷ sorts_of f.before ++ f.here.sort ∷ []) ++ more → ⊥
      cannot none [] more d e = absurd d
      cannot none (u ∷ us) more d e =
          let same : u.item.sort ≡ i.sort = cc in
          let tail : sorts_of us ≡ (sorts_of f.before ++ f.here.sort ∷ []) ++ more = cc in
          let front : d.1.0 ≡ body = some_is d.1.0 body (sym d.1.1 ∙ ap (after role) same ∙ b) in
          none us more (subst (λ (x : List Expect). Derives (x ++ roles) (roles_of us)) front d.1.2) tail

  abbrev Outcome : List Seen → List Expect → S → F → Type 0
  Outcome is roles s fault = AreClosed is → is_stack roles ≡ true → reading is roles s ≡ Err fault → IsFault is roles s fault

  -- nothing comes behind the last item, so that it is refused or has a fault, or the text ends
  at_last : RefusesNoNumber act → (i : Seen) (role : Expect) (roles body : List Expect) (s next : S) (fault : F) → IsLast i → after role i.sort ≡ Some body → act role i s ≡ Ok next → is_stack (role ∷ roles) ≡ true → reading [] (body ++ roles) next ≡ Err fault → ⊥
  unfolding read_on
  at_last refuses i role roles body s next fault (inl finish) b a st e =
      let t = stack_end role body roles (ap (after role) (sym finish) ∙ b) st in
      let r : reading [] (body ++ roles) next ≡ Ok next = ap (λ (x : List Expect). reading [] (x ++ roles) next) t.0 ∙ ap (λ (x : List Expect). reading [] x next) t.1 in
      absurd cc
  at_last refuses i role roles body s next fault (inr (inl bad)) b a st e = absurd (cc (bad_refused role, ap (after role) bad, b))
  at_last refuses i role roles body s next fault (inr (inr int)) b a st e =
      let out = refuses role body i s int.0 int.1 (ap (after role) (sym int.0) ∙ b) in
      absurd (cc (out.1, a))

  pub is_fault : RefusesNoNumber act → (is : List Seen) (roles : List Expect) (s : S) (fault : F) → Outcome is roles s fault
  unfolding read_on
  is_fault refuses [] roles s fault closed st e = absurd closed
  is_fault refuses (i ∷ is) [] s fault closed st e = absurd cc
  is_fault refuses (i ∷ is) (role ∷ roles) s fault closed st e =
      chosen (after role i.sort) refl (λ body next. is_fault refuses is (body ++ roles) next fault) e
    where
      go_on : (body : List Expect) (next : S) → after role i.sort ≡ Some body → act role i s ≡ Ok next → Outcome is (body ++ roles) next fault → reading is (body ++ roles) next ≡ Err fault → ((is ≡ []) × IsLast i) ⊎ ((is_finish i.sort ≡ false) × AreClosed is) → IsFault (i ∷ is) (role ∷ roles) s fault
      go_on body next b a on f (inl last) = absurd (at_last refuses i role roles body s next fault last.1 b a st (ap (λ (x : List Seen). reading x (body ++ roles) next) (sym last.0) ∙ f))
      go_on body next b a on f (inr more) = later i is role roles body s next fault b a (on more.1 (stack_next role i.sort body roles b more.0 st) f)

      acted : (body : List Expect) (r : Result S F) → after role i.sort ≡ Some body → act role i s ≡ r → ((next : S) → Outcome is (body ++ roles) next fault) → (r >>= λ n. reading is (body ++ roles) n) ≡ Err fault → IsFault (i ∷ is) (role ∷ roles) s fault
      acted body (Ok next) b a on f = go_on body next b a (on next) f closed
      acted body (Err x) b a on f = failed i is role roles body s fault b (a ∙ f)

      chosen : (o : Option (List Expect)) → after role i.sort ≡ o → ((body : List Expect) (next : S) → Outcome is (body ++ roles) next fault) → step refusal o i (act role i s) (λ body n. reading is (body ++ roles) n) ≡ Err fault → IsFault (i ∷ is) (role ∷ roles) s fault
      chosen None o on f = subst (IsFault (i ∷ is) (role ∷ roles) s) (err_is (refusal i) fault f) (refused i is role roles s o)
      chosen (Some body) o on f = acted body (act role i s) o refl (on body) f
