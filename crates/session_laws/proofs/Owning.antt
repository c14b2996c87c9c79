-- The commands of a desk are those of its own lines.
use Rattle.std.proofs.Common.{◌≡◌, ℕ, List, [], ◌∷◌, ◌++◌, Bool, true, false, Option, Some, None, map, refl, sym, ap, ◌∙◌}
use Rattle.std.specs.Prelude.{◌==◌, ◌&&◌, filter, not, option_to_list, if◌then◌else◌}
use Rattle.std.specs.Option.{is_some}
use Rattle.desk_read.specs.declared.command.Command.{Command}
use Rattle.desk_read.specs.declared.command.Command.TheVariants.{Unclosed}
use Rattle.desk_read.specs.Commands.{commands_of}
use Rattle.desk_read.specs.Taking.{OpenBlock, answer_to, block_after, commands_from}
use Rattle.synth_run.specs.Desks as desks
use Rattle.synth_run.specs.Desks.{Aim, Part, aim_in, at, command, desk_after, ends_input, going, none, part_of, parts_by, parts_from, stray, to, unclosed}
use Rattle.synth_run.specs.Routes.{commands_for}
use Rattle.session_laws.specs.Own.{Line, desk_behind, ends, is_inside, is_last, is_of, is_told, named, own_lines, placed, said_of_desks, up_to_end}
use Rattle.session_laws.proofs.Lines.{ends_is, inside_after, none_after, said_is, takes, told_outside, told_stays}

abbrev line_at : List ℕ → List (List ℕ) → Line
line_at text before = record { text = text; before = before }

-- ---- up to the line that ends the input

-- lines up to it, behind these
abbrev pub cut : List (List ℕ) → List (List ℕ) → List (List ℕ)
cut before [] = []
cut before (text ∷ lines) = text ∷ (if ends (line_at text before) then [] else cut (text ∷ before) lines)

pub cut_placed : (before lines : List (List ℕ)) → up_to_end (placed before lines) ≡ placed before (cut before lines)
cut_placed before [] = refl
cut_placed before (text ∷ lines) = ap (λ (ls : List Line). line_at text before ∷ ls) (by (ends (line_at text before)) (cut_placed (text ∷ before) lines))
  where
    by : (t : Bool) → up_to_end (placed (text ∷ before) lines) ≡ placed (text ∷ before) (cut (text ∷ before) lines)
        → (if t then [] else up_to_end (placed (text ∷ before) lines)) ≡ placed (text ∷ before) (if t then [] else cut (text ∷ before) lines)
    by true rest = refl
    by false rest = rest

-- the parts of an open block at the end
none_more : (desk : ℕ) (block : Option OpenBlock) → desks.up_to_end (part_of desk (unclosed block)) ≡ part_of desk (unclosed block)
none_more desk None = refl
none_more desk (Some block) = refl

going_on : (other : Option ℕ) (parts : List Part) → desks.up_to_end (going other ∷ parts) ≡ going other ∷ desks.up_to_end parts
going_on None parts = refl
going_on (Some desk) parts = refl

answered_to : (desk : ℕ) (o : Option Command) (parts : List Part) → desks.up_to_end (part_of desk o ++ parts) ≡ part_of desk o ++ (if is_last o then [] else desks.up_to_end parts)
answered_to desk None parts = refl
answered_to desk (Some c) parts = refl

-- the parts up to the end are those of the lines up to it
pub cut_parts : (count desk : ℕ) (block : Option OpenBlock) (before lines : List (List ℕ)) → is_inside before ≡ is_some block
    → desks.up_to_end (parts_from count desk block lines) ≡ parts_from count desk block (cut before lines)
cut_parts count desk block before [] e = none_more desk block
cut_parts count desk block before (line ∷ lines) e = by block (aim_in count block line) e refl (λ next inner f. cut_parts count next inner (line ∷ before) lines f)
  where
    by : (block : Option OpenBlock) (aim : Aim) → is_inside before ≡ is_some block → aim_in count block line ≡ aim
        → ((next : ℕ) (inner : Option OpenBlock) → is_inside (line ∷ before) ≡ is_some inner
        → desks.up_to_end (parts_from count next inner lines) ≡ parts_from count next inner (cut (line ∷ before) lines))
        → desks.up_to_end (parts_by desk block line (aim_in count block line) (λ next inner. parts_from count next inner lines))
        ≡ parts_by desk block line (aim_in count block line) (λ next inner. parts_from count next inner (if ends (line_at line before) then [] else cut (line ∷ before) lines))
    by block none e aim rest =
        ap (λ (a : Aim). desks.up_to_end (parts_by desk block line a (λ next inner. parts_from count next inner lines))) aim
        ∙ answered_to desk (answer_to block line) (parts_from count desk (block_after block line) lines)
        ∙ ap (λ (ps : List Part). part_of desk (answer_to block line) ++ ps)
        (go (is_last (answer_to block line)) refl ∙ ap (λ (t : Bool). parts_from count desk (block_after block line) (if t then [] else cut (line ∷ before) lines)) (sym (ends_is block line before e)))
        ∙ ap (λ (a : Aim). parts_by desk block line a (λ next inner. parts_from count next inner (if ends (line_at line before) then [] else cut (line ∷ before) lines))) (sym aim)
      where
        go : (t : Bool) → is_last (answer_to block line) ≡ t
            → (if t then [] else desks.up_to_end (parts_from count desk (block_after block line) lines))
            ≡ parts_from count desk (block_after block line) (if t then [] else cut (line ∷ before) lines)
        go true q = sym (ap (λ (b : Option OpenBlock). part_of desk (unclosed b)) (none_after block line q))
        go false q = rest desk (block_after block line) (inside_after block line before e)
    by None (at other) e aim rest =
        ap (λ (a : Aim). desks.up_to_end (parts_by desk None line a (λ next inner. parts_from count next inner lines))) aim
        ∙ going_on other (parts_from count (desk_after desk other) None lines)
        ∙ ap (λ (ps : List Part). going other ∷ ps)
        (rest (desk_after desk other) None (told_outside count line before other e aim)
        ∙ ap (λ (t : Bool). parts_from count (desk_after desk other) None (if t then [] else cut (line ∷ before) lines)) (sym (told_stays count line before other e aim)))
        ∙ ap (λ (a : Aim). parts_by desk None line a (λ next inner. parts_from count next inner (if ends (line_at line before) then [] else cut (line ∷ before) lines))) (sym aim)
    by (Some inner) (at other) e aim rest = absurd (let no : none ≡ at other = aim in cc)

-- ---- a desk's own lines

-- its own ones of lines behind these
abbrev pub own_from : ℕ → ℕ → List (List ℕ) → List (List ℕ) → List (List ℕ)
own_from count d before lines = map (λ (line : Line). line.text) (filter (is_of count d) (placed before lines))

-- a block is open of the desk, where it is the one that commands are for
abbrev if_own : Bool → Option OpenBlock → Option OpenBlock
if_own true block = block
if_own false block = None

if_none : (t : Bool) → if_own t None ≡ None
if_none true = refl
if_none false = refl

own_end : (d desk : ℕ) (block : Option OpenBlock) → commands_for d (part_of desk (unclosed block)) ≡ commands_from (if_own (desk == d) block) []
own_end d desk None = ap (λ (b : Option OpenBlock). commands_from b []) (sym (if_none (desk == d)))
own_end d desk (Some block) = by (desk == d)
  where
    by : (t : Bool) → (if t then Unclosed ∷ [] else []) ≡ commands_from (if_own t (Some block)) []
    by true = refl
    by false = refl

-- the command that a line completes
own_answer : (d desk : ℕ) (o : Option Command) (parts : List Part) → commands_for d (part_of desk o ++ parts) ≡ (if desk == d then option_to_list o else []) ++ commands_for d parts
own_answer d desk None parts = by (desk == d)
  where
    by : (t : Bool) → commands_for d parts ≡ (if t then [] else []) ++ commands_for d parts
    by true = refl
    by false = refl
own_answer d desk (Some c) parts = by (desk == d)
  where
    by : (t : Bool) → (if t then c ∷ commands_for d parts else commands_for d parts) ≡ (if t then c ∷ [] else []) ++ commands_for d parts
    by true = refl
    by false = refl

no_command : (d : ℕ) (other : Option ℕ) (parts : List Part) → commands_for d (going other ∷ parts) ≡ commands_for d parts
no_command d None parts = refl
no_command d (Some desk) parts = refl

named_is : (other : Option ℕ) (desk : ℕ) → named (at other) desk ≡ desk_after desk other
named_is None desk = refl
named_is (Some other) desk = refl

-- its own lines, by whether the line that comes next is one
abbrev own_either : ℕ → ℕ → List ℕ → List (List ℕ) → List (List ℕ) → Bool → List (List ℕ)
own_either count d text before lines t =
    map (λ (line : Line). line.text) (if t then line_at text before ∷ filter (is_of count d) (placed (text ∷ before) lines) else filter (is_of count d) (placed (text ∷ before) lines))

-- the line that comes next, where it is the desk's own, and where it is not
own_next : (count d : ℕ) (text : List ℕ) (before lines : List (List ℕ)) (t : Bool) → is_of count d (line_at text before) ≡ t
    → own_from count d before (text ∷ lines) ≡ (if t then text ∷ own_from count d (text ∷ before) lines else own_from count d (text ∷ before) lines)
own_next count d text before lines true e = ap (own_either count d text before lines) e
own_next count d text before lines false e = ap (own_either count d text before lines) e

-- the commands of a desk among the parts of lines are those of its own lines
pub owned : (count d desk : ℕ) (block : Option OpenBlock) (before lines : List (List ℕ)) → is_inside before ≡ is_some block → desk_behind count before ≡ desk
    → commands_for d (parts_from count desk block lines) ≡ commands_from (if_own (desk == d) block) (own_from count d before lines)
owned count d desk block before [] e is = own_end d desk block
owned count d desk block before (line ∷ lines) e is = by block (aim_in count block line) e refl (λ next inner f g. owned count d next inner (line ∷ before) lines f g)
  where
    by : (block : Option OpenBlock) (aim : Aim) → is_inside before ≡ is_some block → aim_in count block line ≡ aim
        → ((next : ℕ) (inner : Option OpenBlock) → is_inside (line ∷ before) ≡ is_some inner → desk_behind count (line ∷ before) ≡ next
        → commands_for d (parts_from count next inner lines) ≡ commands_from (if_own (next == d) inner) (own_from count d (line ∷ before) lines))
        → commands_for d (parts_by desk block line (aim_in count block line) (λ next inner. parts_from count next inner lines))
        ≡ commands_from (if_own (desk == d) block) (own_from count d before (line ∷ lines))
    by block none e aim rest =
        ap (λ (a : Aim). commands_for d (parts_by desk block line a (λ next inner. parts_from count next inner lines))) aim
        ∙ own_answer d desk (answer_to block line) (parts_from count desk (block_after block line) lines)
        ∙ ap (λ (cs : List Command). (if desk == d then option_to_list (answer_to block line) else []) ++ cs)
        (rest desk (block_after block line) (inside_after block line before e) behind)
        ∙ go (desk == d)
        ∙ ap (commands_from (if_own (desk == d) block)) (sym (own_next count d line before lines (desk == d) own))
      where
        said : said_of_desks count (line_at line before) ≡ none
        said = said_is count block line before e ∙ aim

        behind : desk_behind count (line ∷ before) ≡ desk
        behind = ap (λ (a : Aim). named a (desk_behind count before)) said ∙ is

        own : is_of count d (line_at line before) ≡ (desk == d)
        own = ap (λ (a : Aim). not (is_told a) && (desk_behind count before == d)) said ∙ ap (λ (k : ℕ). k == d) is

        go : (t : Bool)
            → (if t then option_to_list (answer_to block line) else []) ++ commands_from (if_own t (block_after block line)) (own_from count d (line ∷ before) lines)
            ≡ commands_from (if_own t block) (if t then line ∷ own_from count d (line ∷ before) lines else own_from count d (line ∷ before) lines)
        go true = sym (takes block line (own_from count d (line ∷ before) lines))
        go false = refl
    by None (at other) e aim rest =
        ap (λ (a : Aim). commands_for d (parts_by desk None line a (λ next inner. parts_from count next inner lines))) aim
        ∙ no_command d other (parts_from count (desk_after desk other) None lines)
        ∙ rest (desk_after desk other) None (told_outside count line before other e aim) behind
        ∙ ap (λ (b : Option OpenBlock). commands_from b (own_from count d (line ∷ before) lines)) (if_none (desk_after desk other == d) ∙ sym (if_none (desk == d)))
        ∙ ap (commands_from (if_own (desk == d) None)) (sym (own_next count d line before lines false own))
      where
        said : said_of_desks count (line_at line before) ≡ at other
        said = said_is count None line before e ∙ aim

        behind : desk_behind count (line ∷ before) ≡ desk_after desk other
        behind = ap (λ (a : Aim). named a (desk_behind count before)) said ∙ ap (named (at other)) is ∙ named_is other desk

        own : is_of count d (line_at line before) ≡ false
        own = ap (λ (a : Aim). not (is_told a) && (desk_behind count before == d)) said
    by (Some inner) (at other) e aim rest = absurd (let no : none ≡ at other = aim in cc)

-- those up to the end of an input
pub owned_up_to : (count d : ℕ) (lines : List (List ℕ)) → commands_for d (desks.up_to_end (parts_from count 1 None lines)) ≡ commands_of (own_lines count d lines)
owned_up_to count d lines =
    ap (commands_for d) (cut_parts count 1 None [] lines refl) ∙ owned count d 1 None [] (cut [] lines) refl refl
    ∙ ap (λ (b : Option OpenBlock). commands_from b (own_from count d [] (cut [] lines))) (if_none (1 == d))
    ∙ ap (λ (ls : List Line). commands_of (map (λ (line : Line). line.text) (filter (is_of count d) ls))) (sym (cut_placed [] lines))
