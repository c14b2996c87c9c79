-- Blocks with their ends, and without.
use Rattle.std.proofs.Common.{◌≡◌, ℕ, false, List, [], ◌∷◌, ◌++◌, Some, None, codes, refl, sym, ap}
use Rattle.std.proofs.lemmas.List.{append_assoc}
use Rattle.std.specs.List.{AllByRecursion, flat_map}
use Rattle.desk_read.specs.declared.command.Command.TheVariants.{Unclosed}
use Rattle.desk_read.specs.declared.head.Head.TheVariants.{Opens}
use Rattle.desk_read.specs.declared.head.Opening.{Opening}
use Rattle.desk_read.specs.Heads.{head_of}
use Rattle.desk_read.specs.Commands.{Block, block_command, block_of, commands_of, is_end}

-- no line of these ends a block
abbrev pub EndNothing : List (List ℕ) → Type 0
EndNothing = AllByRecursion (λ line. is_end line ≡ false)

-- the text of lines, each ended by LF
abbrev pub text_of : List (List ℕ) → List ℕ
text_of = flat_map (λ line. line ++ 10 ∷ [])

-- this block is ended by the first of these lines
abbrev pub ended : List (List ℕ) → List (List ℕ) → Block
ended block lines = record { text = text_of block; behind = commands_of lines }

-- lines up to the end of a block are that block
block_ended : (block lines : List (List ℕ)) → EndNothing block → block_of (block ++ codes "." ∷ lines) ≡ Some (ended block lines)
block_ended [] lines inner = refl
block_ended (line ∷ block) lines inner =
    rw (inner.0, block_ended block lines inner.1)
    (ap (λ text. Some (record { text = text; behind = commands_of lines })) (sym (append_assoc line (10 ∷ []) (text_of block))))

-- lines without an end are no block
block_unended : (block : List (List ℕ)) → EndNothing block → block_of block ≡ None
block_unended [] inner = refl
block_unended (line ∷ block) inner = rw (inner.0, block_unended block inner.1) refl

pub whole_block : (how : Opening) (first : List ℕ) (block lines : List (List ℕ)) → head_of first ≡ Opens how → EndNothing block
    → commands_of (first ∷ block ++ codes "." ∷ lines) ≡ block_command how (text_of block) ∷ commands_of lines
whole_block how first block lines opens inner = rw (opens, block_ended block lines inner) refl

pub unended_block : (how : Opening) (first : List ℕ) (block : List (List ℕ)) → head_of first ≡ Opens how → EndNothing block
    → commands_of (first ∷ block) ≡ Unclosed ∷ []
unended_block how first block opens inner = rw (opens, block_unended block inner) refl
