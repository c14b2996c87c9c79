-- The sorts of tokens that the grammar tells apart.
use Rattle.std.specs.Prelude.{ℕ, List, Option, Some, None, codes, unwrap_or, if◌then◌else◌}
use Rattle.std.specs.Str.{bytes_eq}
use Rattle.std.specs.Option.{option_or}
use Rattle.rtl_lex.specs.declared.sort.Sort.{Sort}
use Rattle.rtl_lex.specs.declared.sort.Sort.TheVariants as sorts
use Rattle.rtl_lex.specs.declared.token.TokenKind.{TokenKind}
use Rattle.rtl_lex.specs.declared.token.TokenKind.TheVariants.{Word, Mark, Id, Value, Int, Chars, Line}

-- the words that begin a statement of a file, a module or a cell
unfoldable pub module_word : List ℕ → Option Sort
module_word text =
    if bytes_eq text (codes "autoidx") then Some sorts.Autoidx
    else (if bytes_eq text (codes "attribute") then Some sorts.Attribute
    else (if bytes_eq text (codes "module") then Some sorts.Module
    else (if bytes_eq text (codes "parameter") then Some sorts.Parameter
    else (if bytes_eq text (codes "wire") then Some sorts.Wire
    else (if bytes_eq text (codes "memory") then Some sorts.Memory
    else (if bytes_eq text (codes "cell") then Some sorts.Cell
    else (if bytes_eq text (codes "connect") then Some sorts.Connect
    else (if bytes_eq text (codes "end") then Some sorts.End
    else None))))))))

-- the words that a wire, a memory or a parameter may have
unfoldable pub option_word : List ℕ → Option Sort
option_word text =
    if bytes_eq text (codes "width") then Some sorts.Width
    else (if bytes_eq text (codes "offset") then Some sorts.Offset
    else (if bytes_eq text (codes "size") then Some sorts.Size
    else (if bytes_eq text (codes "input") then Some sorts.Input
    else (if bytes_eq text (codes "output") then Some sorts.Output
    else (if bytes_eq text (codes "inout") then Some sorts.Inout
    else (if bytes_eq text (codes "upto") then Some sorts.Upto
    else (if bytes_eq text (codes "signed") then Some sorts.Signed
    else None)))))))

-- the words of a process
unfoldable pub process_word : List ℕ → Option Sort
process_word text =
    if bytes_eq text (codes "process") then Some sorts.Process
    else (if bytes_eq text (codes "assign") then Some sorts.Assign
    else (if bytes_eq text (codes "switch") then Some sorts.Switch
    else (if bytes_eq text (codes "case") then Some sorts.Case
    else (if bytes_eq text (codes "sync") then Some sorts.Sync
    else (if bytes_eq text (codes "update") then Some sorts.Update
    else (if bytes_eq text (codes "memwr") then Some sorts.Memwr
    else None))))))

-- the words behind `sync`
unfoldable pub event_word : List ℕ → Option Sort
event_word text =
    if bytes_eq text (codes "low") then Some sorts.Low
    else (if bytes_eq text (codes "high") then Some sorts.High
    else (if bytes_eq text (codes "posedge") then Some sorts.Posedge
    else (if bytes_eq text (codes "negedge") then Some sorts.Negedge
    else (if bytes_eq text (codes "edge") then Some sorts.Edge
    else (if bytes_eq text (codes "global") then Some sorts.Global
    else (if bytes_eq text (codes "init") then Some sorts.Init
    else (if bytes_eq text (codes "always") then Some sorts.Always
    else None)))))))

-- the sort of a word, each of which is in one of these families or in none
unfoldable pub word_sort : List ℕ → Sort
word_sort text = unwrap_or (option_or (module_word text) (option_or (option_word text) (option_or (process_word text) (event_word text)))) sorts.Other

-- the sort of a mark
unfoldable pub mark_sort : List ℕ → Sort
mark_sort text =
    if bytes_eq text (codes "[") then sorts.OpenIndex
    else (if bytes_eq text (codes "]") then sorts.CloseIndex
    else (if bytes_eq text (codes "{") then sorts.OpenBrace
    else (if bytes_eq text (codes "}") then sorts.CloseBrace
    else (if bytes_eq text (codes ":") then sorts.Colon
    else sorts.Comma))))

-- the sort of a token
abbrev pub sort_of : TokenKind → List ℕ → Sort
sort_of Word text = word_sort text
sort_of Mark text = mark_sort text
sort_of Id text = sorts.Id
sort_of Value text = sorts.Value
sort_of Int text = sorts.Int
sort_of Chars text = sorts.Chars
sort_of Line text = sorts.Line
