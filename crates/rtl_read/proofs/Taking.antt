-- What reading gives, an item at a time.
use Rattle.std.proofs.Common.{◌≡◌, ℕ, ◌+◌, ◌<◌, Bool, refl, arith, length, drop, List, [], ◌∷◌, ◌++◌, Option, Some, None, Result, Ok, Err, sym, ap, subst, ◌∙◌}
use Rattle.rtl_lex.specs.Place.{start}
use Rattle.rtl_lex.specs.declared.place.Place.{Place}
use Rattle.rtl_lex.specs.Items.{Seen, AreItems, remaining}
use Rattle.rtl_grammar.specs.declared.expect.Expect.{Expect}
use Rattle.rtl_grammar.specs.Grammar.{after}
use Rattle.rtl_grammar.specs.Uses.{◌>>=◌}
use Rattle.rtl_grammar.proofs.ReadOn.{read_on, step}
use Rattle.rtl_grammar.proofs.Reading.{stepped}
use Rattle.rtl_read.specs.declared.draft.Draft.{Draft}
use Rattle.rtl_read.specs.declared.read_fault.ReadFault.{ReadFault}
use Rattle.rtl_read.specs.declared.read_fault.ReadFault.TheVariants as faults
use Rattle.rtl_read.specs.declared.read_fault.ReadFault.TheVariants.{Syntax}
use Rattle.rtl_read.specs.Draft.{design_of}
use Rattle.rtl_read.specs.Act.{act}
use Rattle.rtl_read.specs.Gives.{Fails}
use Rattle.rtl_read.specs.Reads.{refusal}
use Rattle.rtl_read.specs.Taking.{reading, design_read}
use Rattle.rtl_read.proofs.Faults.{fails_on}

-- the fault that reading gives is one that it fails with
fails_is : (fault : ReadFault) (read : Result Draft ReadFault) → read ≡ Err fault → Fails fault read
fails_is faults.Memory read e = tt
fails_is (faults.Lex p) read e = e
fails_is (faults.Syntax p) read e = e
fails_is (faults.Int p) read e = e
fails_is (faults.Duplicate p) read e = e
fails_is (faults.UnknownName p) read e = e
fails_is (faults.Range p) read e = e
fails_is (faults.Limit p) read e = e

-- where nothing more is expected, an item is refused
pub take_none : (roles : List Expect) (i : Seen) (d : Draft) (fault : ReadFault) → roles ≡ [] → fault ≡ refusal i → (others : List Seen) → Fails fault (reading (i ∷ others) roles d)
unfolding read_on reading
take_none roles i d fault none is others =
    fails_is fault (reading (i ∷ others) roles d) (ap (λ (x : List Expect). reading (i ∷ others) x d) none ∙ ap (λ (f : ReadFault). Err f) (sym is))

-- so it is where the grammar has none of its sort
pub take_refused : (roles left : List Expect) (role : Expect) (i : Seen) (d : Draft) (fault : ReadFault) → roles ≡ role ∷ left → after role i.sort ≡ None → fault ≡ refusal i → (others : List Seen) → Fails fault (reading (i ∷ others) roles d)
unfolding read_on reading
take_refused roles left role i d fault top none is others =
    fails_is fault (reading (i ∷ others) roles d)
    (ap (λ (x : List Expect). reading (i ∷ others) x d) top
    ∙ ap (λ (o : Option (List Expect)). step refusal o i (act role i d) (λ body next. reading others (body ++ left) next)) none
    ∙ ap (λ (f : ReadFault). Err f) (sym is))

-- else it acts
take_acts : (roles left body : List Expect) (role : Expect) (i : Seen) (d : Draft) → roles ≡ role ∷ left → after role i.sort ≡ Some body → (others : List Seen) → reading (i ∷ others) roles d ≡ (act role i d >>= λ next. reading others (body ++ left) next)
unfolding reading
take_acts roles left body role i d top is others =
    ap (λ (x : List Expect). reading (i ∷ others) x d) top ∙ stepped act refusal (Syntax start) i others role left body d is

-- where it has a fault, reading has it
pub take_failed : (roles left body : List Expect) (role : Expect) (i : Seen) (d : Draft) (fault : ReadFault) → roles ≡ role ∷ left → after role i.sort ≡ Some body → Fails fault (act role i d) → (others : List Seen) → Fails fault (reading (i ∷ others) roles d)
take_failed roles left body role i d fault top is fails others =
    subst (Fails fault) (sym (take_acts roles left body role i d top is others)) (fails_on fault (act role i d) (λ next. reading others (body ++ left) next) fails)

-- where it has none, reading goes on with what is expected behind it
pub take_on : (roles left body new : List Expect) (role : Expect) (i : Seen) (d next : Draft) → roles ≡ role ∷ left → after role i.sort ≡ Some body → act role i d ≡ Ok next → new ≡ body ++ left → (others : List Seen) → reading (i ∷ others) roles d ≡ reading others new next
take_on roles left body new role i d next top is acts on others =
    take_acts roles left body role i d top is others ∙ ap (λ (r : Result Draft ReadFault). r >>= λ n. reading others (body ++ left) n) acts ∙ ap (λ (x : List Expect). reading others x next) (sym on)

-- behind the last item nothing more may be expected
pub all_read : (roles : List Expect) (d : Draft) → length roles ≡ 0 → design_read (reading [] roles d) ≡ Ok (design_of d)
unfolding read_on reading
all_read [] d none = refl
all_read (role ∷ roles) d none = absurd (omega arith)

pub cut_off : (roles : List Expect) (d : Draft) → 0 < length roles → design_read (reading [] roles d) ≡ Err (Syntax start)
unfolding read_on reading
cut_off [] d some = absurd (omega arith)
cut_off (role ∷ roles) d some = refl

-- ---- the loop

-- what is still to read is this much of the text
abbrev pub OnFrom : List ℕ → Option (Place × Bool) → List Expect → Draft → Result Draft ReadFault → Type 0
OnFrom text None roles d whole = whole ≡ reading [] roles d
OnFrom text (Some at) roles d whole = (others : List Seen) × AreItems others (drop at.0.at text) at.0 at.1 × (whole ≡ reading others roles d)

-- how much that is
abbrev pub to_read : List ℕ → Option (Place × Bool) → ℕ
to_read text None = 0
to_read text (Some at) = remaining text at.0 at.1 + 1
