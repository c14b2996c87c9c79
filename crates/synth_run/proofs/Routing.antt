-- What lines make of the parts of an input, and of a router.
use Rattle.std.proofs.Common.{◌≡◌, ℕ, zero, suc, ◌+◌, ◌-◌, ◌≤◌, ◌<◌, List, [], ◌∷◌, ◌++◌, Bool, true, false, Option, Some, None, length, refl, sym, ap, subst, ◌∙◌, append_assoc, append-nil, arith}
use Rattle.std.specs.Prelude.{◌==◌, ◌||◌, option_to_list, slice_index_or, slice_set, if◌then◌else◌}
use Rattle.std.specs.List.{list_all, list_any}
use Rattle.std.proofs.lemmas.Bool.Decides.{nat_tests}
use Rattle.std.proofs.lemmas.List.{map-append}
use Rattle.desk_read.specs.declared.command.Command.{Command}
use Rattle.desk_read.specs.declared.command.Command.TheVariants.{Unclosed}
use Rattle.desk_read.specs.Taking.{OpenBlock, Takes, answer_to, block_after, commands_from}
use Rattle.synth_run.specs.Desks.{Aim, Part, aim_in, at, command, desk_after, ends_input, going, is_whole_part, none, part_of, parts_by, parts_from, stray, to, unclosed, up_to_end}
use Rattle.synth_run.specs.Lines.{last_line}
use Rattle.synth_run.specs.Routes.{AreLists, EndsParts, Holds, PartsOf, TakesParts, commands_for, tag_of}
use Rattle.synth_run.specs.Session.{is_quit, is_whole}
use Rattle.synth_run.specs.declared.routes.Router.{Router}
use Rattle.synth_run.specs.declared.routes.Tag.{Tag}
use Rattle.synth_run.proofs.Speaking.{all_both, any_both, or_none}
use Rattle.synth_run.proofs.Turning.{any_whole}

-- ---- the parts of lines

pub parts_none : (count desk : ℕ) (block : Option OpenBlock) → PartsOf count desk block [] false [] desk block
parts_none count desk block = record { whole = refl; ends = refl; up_to = λ more. refl; first = λ after. refl }

pub parts_both : (count desk mid last : ℕ) (block inner final : Option OpenBlock) (ls ms : List (List ℕ)) (ended : Bool) (ps qs : List Part)
    → PartsOf count desk block ls false ps mid inner → PartsOf count mid inner ms ended qs last final → PartsOf count desk block (ls ++ ms) ended (ps ++ qs) last final
parts_both count desk mid last block inner final ls ms ended ps qs f g = record {
  whole = all_both is_whole_part ps qs f.whole g.whole;
  ends = any_both ends_input ps qs ∙ ap (λ (t : Bool). t || list_any ends_input qs) f.ends ∙ g.ends;
  up_to = λ more. ap up_to_end (append_assoc ps qs more) ∙ f.up_to (qs ++ more) ∙ ap (λ (l : List Part). ps ++ l) (g.up_to more) ∙ sym (append_assoc ps qs (if ended then [] else up_to_end more));
  first = λ after.
      ap (parts_from count desk block) (append_assoc ls ms after) ∙ f.first (ms ++ after) ∙ ap (λ (l : List Part). ps ++ l) (g.first after)
      ∙ sym (append_assoc ps qs (parts_from count last final after));
}

-- a command ends the input
abbrev pub quits : Option Command → Bool
quits None = false
quits (Some c) = is_quit c

whole_by : (desk : ℕ) (o : Option Command) → list_all is_whole (option_to_list o) ≡ true → list_all is_whole_part (part_of desk o) ≡ true
whole_by desk None h = refl
whole_by desk (Some c) h = h

ends_by : (desk : ℕ) (o : Option Command) → list_any ends_input (part_of desk o) ≡ quits o
ends_by desk None = refl
ends_by desk (Some c) = or_none (is_quit c)

up_to_by : (desk : ℕ) (o : Option Command) (more : List Part) → up_to_end (part_of desk o ++ more) ≡ part_of desk o ++ (if quits o then [] else up_to_end more)
up_to_by desk None more = refl
up_to_by desk (Some c) more = refl

-- a line of a command
pub one_command : (count desk : ℕ) (block : Option OpenBlock) (line : List ℕ) → Takes block line (answer_to block line) (block_after block line) → aim_in count block line ≡ none
    → PartsOf count desk block (line ∷ []) (quits (answer_to block line)) (part_of desk (answer_to block line)) desk (block_after block line)
one_command count desk block line takes aim = record {
  whole = whole_by desk (answer_to block line) (any_whole block line (answer_to block line) (block_after block line) takes);
  ends = ends_by desk (answer_to block line);
  up_to = up_to_by desk (answer_to block line);
  first = λ after. ap (λ (a : Aim). parts_by desk block line a (λ next inner. parts_from count next inner after)) aim;
}

going_whole : (other : Option ℕ) → list_all is_whole_part (going other ∷ []) ≡ true
going_whole None = refl
going_whole (Some desk) = refl

going_ends : (other : Option ℕ) → ends_input (going other) ≡ false
going_ends None = refl
going_ends (Some desk) = refl

-- a line that says something of desks
pub one_aim : (count desk : ℕ) (line : List ℕ) (other : Option ℕ) → aim_in count None line ≡ at other
    → PartsOf count desk None (line ∷ []) false (going other ∷ []) (desk_after desk other) None
one_aim count desk line other aim = record {
  whole = going_whole other;
  ends = ap (λ (t : Bool). t || false) (going_ends other);
  up_to = λ more. ap (λ (t : Bool). going other ∷ (if t then [] else up_to_end more)) (going_ends other);
  first = λ after. ap (λ (a : Aim). parts_by desk None line a (λ next inner. parts_from count next inner after)) aim;
}

-- ---- the lists of desks

commands_append : (desk : ℕ) (ps qs : List Part) → commands_for desk (ps ++ qs) ≡ commands_for desk ps ++ commands_for desk qs
commands_append desk [] qs = refl
commands_append desk (command other c ∷ ps) qs = by (other == desk) (commands_append desk ps qs)
  where
    by : (t : Bool) → commands_for desk (ps ++ qs) ≡ commands_for desk ps ++ commands_for desk qs
        → (if t then c ∷ commands_for desk (ps ++ qs) else commands_for desk (ps ++ qs)) ≡ (if t then c ∷ commands_for desk ps else commands_for desk ps) ++ commands_for desk qs
    by true e = ap (λ (l : List Command). c ∷ l) e
    by false e = e
commands_append desk (to other ∷ ps) qs = commands_append desk ps qs
commands_append desk (stray ∷ ps) qs = commands_append desk ps qs

is_for : (desk other : ℕ) (ps : List Part) (c : Command) → (other == desk) ≡ true → commands_for desk (ps ++ command other c ∷ []) ≡ commands_for desk ps ++ c ∷ []
is_for desk other ps c e = commands_append desk ps (command other c ∷ []) ∙ ap (λ (t : Bool). commands_for desk ps ++ (if t then c ∷ [] else [])) e

not_for : (desk other : ℕ) (ps : List Part) (c : Command) → (other == desk) ≡ false → commands_for desk (ps ++ command other c ∷ []) ≡ commands_for desk ps
not_for desk other ps c e =
    commands_append desk ps (command other c ∷ []) ∙ ap (λ (t : Bool). commands_for desk ps ++ (if t then c ∷ [] else [])) e
    ∙ append-nil (commands_for desk ps)

below_not : (a b : ℕ) → a < b → (a == b) ≡ false
below_not a b h = grind (arith, nat_tests)

above_not : (a b : ℕ) → b < a → (a == b) ≡ false
above_not a b h = grind (arith, nat_tests)

same_is : (a b : ℕ) → a ≡ b → (a == b) ≡ true
same_is a b h = grind (arith, nat_tests)

lists_other : (n desk : ℕ) (ps : List Part) (c : Command) (lists : List (List Command)) → desk < n → AreLists n ps lists → AreLists n (ps ++ command desk c ∷ []) lists
lists_other n desk ps c [] lt h = tt
lists_other n desk ps c (l ∷ ls) lt h = (h.0 ∙ sym (not_for n desk ps c (below_not desk n lt)), lists_other (n + 1) desk ps c ls (omega (arith, lt)) h.1)

lists_put : (n k : ℕ) (ps : List Part) (c : Command) (lists : List (List Command)) → k < length lists → AreLists n ps lists
    → AreLists n (ps ++ command (n + k) c ∷ []) (slice_set lists k (slice_index_or lists k [] ++ c ∷ []))
lists_put n k ps c [] lt h = absurd (omega (arith, lt))
lists_put n zero ps c (l ∷ ls) lt h = (
  ap (λ (x : List Command). x ++ c ∷ []) h.0 ∙ sym (is_for n (n + 0) ps c (same_is (n + 0) n (omega arith))),
  lists_other (n + 1) (n + 0) ps c ls (omega arith) h.1,
)
lists_put n (suc k) ps c (l ∷ ls) lt h =
    let e : (n + 1) + k ≡ n + suc k = omega arith in (
      h.0 ∙ sym (not_for n (n + suc k) ps c (above_not (n + suc k) n (omega arith))),
      subst (λ (d : ℕ). AreLists (n + 1) (ps ++ command d c ∷ []) (slice_set ls k (slice_index_or ls k [] ++ c ∷ []))) e
          (lists_put (n + 1) k ps c ls (omega (arith, lt)) h.1),
    )

lists_same : (n : ℕ) (ps : List Part) (part : Part) (lists : List (List Command)) → ((desk : ℕ) → commands_for desk (part ∷ []) ≡ []) → AreLists n ps lists
    → AreLists n (ps ++ part ∷ []) lists
lists_same n ps part [] silent h = tt
lists_same n ps part (l ∷ ls) silent h = (
  h.0 ∙ sym (commands_append n ps (part ∷ []) ∙ ap (λ (cs : List Command). commands_for n ps ++ cs) (silent n) ∙ append-nil (commands_for n ps)),
  lists_same (n + 1) ps part ls silent h.1,
)

-- lists of no command
pub lists_more : (n : ℕ) (lists : List (List Command)) → AreLists n [] lists → AreLists n [] (lists ++ [] ∷ [])
lists_more n [] h = (refl, tt)
lists_more n (l ∷ ls) h = (h.0, lists_more (n + 1) ls h.1)

-- ---- what a router holds

pub holds_nothing : (a b : Router) → b.parts.items ≡ a.parts.items → b.lists.items ≡ a.lists.items → (parts : List Part) → Holds parts a → Holds (parts ++ []) b
holds_nothing a b tags lists parts h =
    subst (λ (l : List Part). Holds l b) (sym (append-nil parts))
    (record { tags = tags ∙ h.tags; lists = subst (AreLists 1 parts) (sym lists) h.lists })

pub holds_command : (a b : Router) (c : Command) → (1 ≤ a.desk) × (a.desk ≤ length a.lists.items) → b.parts.items ≡ a.parts.items ++ tag_of (command a.desk c) ∷ []
    → b.lists.items ≡ slice_set a.lists.items (a.desk - 1) (slice_index_or a.lists.items (a.desk - 1) [] ++ c ∷ [])
    → (parts : List Part) → Holds parts a → Holds (parts ++ command a.desk c ∷ []) b
holds_command a b c range tags lists parts h =
    let some = range.0 in
    let few = range.1 in
    let e : 1 + (a.desk - 1) ≡ a.desk = omega (arith, some) in
    record {
      tags = tags ∙ ap (λ (l : List Tag). l ++ tag_of (command a.desk c) ∷ []) h.tags ∙ sym (map-append tag_of parts (command a.desk c ∷ []));
      lists =
          subst (AreLists 1 (parts ++ command a.desk c ∷ [])) (sym lists)
          (subst (λ (d : ℕ). AreLists 1 (parts ++ command d c ∷ []) (slice_set a.lists.items (a.desk - 1) (slice_index_or a.lists.items (a.desk - 1) [] ++ c ∷ []))) e
          (lists_put 1 (a.desk - 1) parts c a.lists.items (omega (arith, some, few)) h.lists));
    }

-- the item at a place is the same, whatever is read past the end
same_item : {A : Type 0} (xs : List A) (k : ℕ) (d e : A) → k < length xs → slice_index_or xs k d ≡ slice_index_or xs k e
same_item [] k d e lt = absurd (omega (arith, lt))
same_item (x ∷ xs) zero d e lt = refl
same_item (x ∷ xs) (suc k) d e lt = same_item xs k d e (omega (arith, lt))

pub holds_put : (a b : Router) (c : Command) (list : List Command) → (1 ≤ a.desk) × (a.desk ≤ length a.lists.items) → list ≡ slice_index_or a.lists.items (a.desk - 1) list
    → b.parts.items ≡ a.parts.items ++ tag_of (command a.desk c) ∷ [] → b.lists.items ≡ slice_set a.lists.items (a.desk - 1) (list ++ c ∷ [])
    → (parts : List Part) → Holds parts a → Holds (parts ++ command a.desk c ∷ []) b
holds_put a b c list range is tags lists =
    let some = range.0 in
    let few = range.1 in
    holds_command a b c range tags
    (lists ∙ ap (λ (l : List Command). slice_set a.lists.items (a.desk - 1) (l ++ c ∷ [])) (is ∙ same_item a.lists.items (a.desk - 1) list [] (omega (arith, some, few))))

going_none : (other : Option ℕ) (desk : ℕ) → commands_for desk (going other ∷ []) ≡ []
going_none None desk = refl
going_none (Some other) desk = refl

pub holds_aim : (a b : Router) (other : Option ℕ) → b.parts.items ≡ a.parts.items ++ tag_of (going other) ∷ [] → b.lists.items ≡ a.lists.items
    → (parts : List Part) → Holds parts a → Holds (parts ++ going other ∷ []) b
holds_aim a b other tags lists parts h = record {
  tags = tags ∙ ap (λ (l : List Tag). l ++ tag_of (going other) ∷ []) h.tags ∙ sym (map-append tag_of parts (going other ∷ []));
  lists = subst (AreLists 1 (parts ++ going other ∷ [])) (sym lists) (lists_same 1 parts (going other) a.lists.items (going_none other) h.lists);
}

-- ---- what a router takes

pub took_none : (a b : Router) → b.parts.items ≡ a.parts.items → b.lists.items ≡ a.lists.items → b.desk ≡ a.desk → b.reader ≡ a.reader → TakesParts a b [] false []
took_none a b tags lists desk reader = record {
  count = ap length lists;
  holds = holds_nothing a b tags lists;
  takes =
      subst (λ (d : ℕ). PartsOf (length a.lists.items) a.desk a.reader [] false [] d b.reader) (sym desk)
      (subst (PartsOf (length a.lists.items) a.desk a.reader [] false [] a.desk) (sym reader) (parts_none (length a.lists.items) a.desk a.reader));
}

pub took_both : (a b c : Router) (ls ms : List (List ℕ)) (ended : Bool) (ps qs : List Part) → TakesParts a b ls false ps → TakesParts b c ms ended qs
    → TakesParts a c (ls ++ ms) ended (ps ++ qs)
took_both a b c ls ms ended ps qs f g = record {
  count = g.count ∙ f.count;
  holds = λ parts h. subst (λ (l : List Part). Holds l c) (append_assoc parts ps qs) (g.holds (parts ++ ps) (f.holds parts h));
  takes =
      parts_both (length a.lists.items) a.desk b.desk c.desk a.reader b.reader c.reader ls ms ended ps qs f.takes
      (subst (λ (n : ℕ). PartsOf n b.desk b.reader ms ended qs c.desk c.reader) f.count g.takes);
}

-- a line of a command, which the router has put into its list
pub took_command : (a b : Router) (line : List ℕ) (ended : Bool) (answer : Option Command) → aim_in (length a.lists.items) a.reader line ≡ none
    → answer ≡ answer_to a.reader line → Takes a.reader line answer b.reader → b.reader ≡ block_after a.reader line → b.desk ≡ a.desk
    → length b.lists.items ≡ length a.lists.items → ended ≡ quits answer → ((parts : List Part) → Holds parts a → Holds (parts ++ part_of a.desk answer) b)
    → (more : List Part) × TakesParts a b (line ∷ []) ended more
took_command a b line ended answer aim is takes reader desk count quit holds = (
  part_of a.desk answer,
  record {
    count = count;
    holds = holds;
    takes =
        subst (λ (d : ℕ). PartsOf (length a.lists.items) a.desk a.reader (line ∷ []) ended (part_of a.desk answer) d b.reader) (sym desk)
        (subst (PartsOf (length a.lists.items) a.desk a.reader (line ∷ []) ended (part_of a.desk answer) a.desk) (sym reader)
        (subst (λ (t : Bool). PartsOf (length a.lists.items) a.desk a.reader (line ∷ []) t (part_of a.desk answer) a.desk (block_after a.reader line)) (sym quit)
        (subst (λ (o : Option Command). PartsOf (length a.lists.items) a.desk a.reader (line ∷ []) (quits o) (part_of a.desk o) a.desk (block_after a.reader line)) (sym is)
        (one_command (length a.lists.items) a.desk a.reader line
        (subst (Takes a.reader line (answer_to a.reader line)) reader (subst (λ (o : Option Command). Takes a.reader line o b.reader) is takes)) aim))));
  },
)

-- a line that says something of desks
pub took_aim : (a b : Router) (line : List ℕ) (other : Option ℕ) → a.reader ≡ None → aim_in (length a.lists.items) None line ≡ at other → b.reader ≡ a.reader
    → b.desk ≡ desk_after a.desk other → b.parts.items ≡ a.parts.items ++ tag_of (going other) ∷ [] → b.lists.items ≡ a.lists.items
    → (more : List Part) × TakesParts a b (line ∷ []) false more
took_aim a b line other outside aim reader desk tags lists = (
  going other ∷ [],
  record {
    count = ap length lists;
    holds = holds_aim a b other tags lists;
    takes =
        subst (λ (d : ℕ). PartsOf (length a.lists.items) a.desk a.reader (line ∷ []) false (going other ∷ []) d b.reader) (sym desk)
        (subst (PartsOf (length a.lists.items) a.desk a.reader (line ∷ []) false (going other ∷ []) (desk_after a.desk other)) (sym reader)
        (subst (λ (r : Option OpenBlock). PartsOf (length a.lists.items) a.desk r (line ∷ []) false (going other ∷ []) (desk_after a.desk other) r) (sym outside)
        (one_aim (length a.lists.items) a.desk line other aim)));
  },
)

-- ---- the end of an input

unclosed_is : (block : Option OpenBlock) (last : Option Command) → option_to_list last ≡ commands_from block [] → last ≡ unclosed block
unclosed_is None None e = refl
unclosed_is None (Some c) e = absurd cc
unclosed_is (Some block) None e = absurd cc
unclosed_is (Some block) (Some c) e =
    let same : c ≡ Unclosed = cc in
    ap Some same

up_unclosed : (desk : ℕ) (block : Option OpenBlock) → up_to_end (part_of desk (unclosed block)) ≡ part_of desk (unclosed block)
up_unclosed desk None = refl
up_unclosed desk (Some block) = refl

all_of : (a b : Router) (lines : List (List ℕ)) (ended : Bool) (more : List Part) → TakesParts a b lines ended more
    → up_to_end (parts_from (length a.lists.items) a.desk a.reader lines) ≡ more ++ (if ended then [] else up_to_end (part_of b.desk (unclosed b.reader)))
all_of a b lines ended more t =
    ap up_to_end (ap (parts_from (length a.lists.items) a.desk a.reader) (sym (append-nil lines)) ∙ t.takes.first [])
    ∙ t.takes.up_to (part_of b.desk (unclosed b.reader))

-- the last line ended the input
pub ended_early : (a b : Router) → (more : List Part) × TakesParts a b (last_line a.line) true more → (more : List Part) × EndsParts a b more
ended_early a b t = (
  t.0,
  record { count = t.1.count; holds = t.1.holds; all = sym (all_of a b (last_line a.line) true t.0 t.1 ∙ append-nil t.0) },
)

-- the last line, and the command that an open block is
pub ended_all : (a b c : Router) (last : Option Command) → (more : List Part) × TakesParts a b (last_line a.line) false more → option_to_list last ≡ commands_from b.reader []
    → length c.lists.items ≡ length b.lists.items → ((parts : List Part) → Holds parts b → Holds (parts ++ part_of b.desk last) c) → (more : List Part) × EndsParts a c more
ended_all a b c last t is count holds =
    let same : last ≡ unclosed b.reader = unclosed_is b.reader last is in (
      t.0 ++ part_of b.desk last,
      record {
        count = count ∙ t.1.count;
        holds = λ parts h. subst (λ (l : List Part). Holds l c) (append_assoc parts t.0 (part_of b.desk last)) (holds (parts ++ t.0) (t.1.holds parts h));
        all = sym (all_of a b (last_line a.line) false t.0 t.1 ∙ ap (λ (l : List Part). t.0 ++ l) (up_unclosed b.desk b.reader ∙ ap (part_of b.desk) (sym same)));
      },
    )
