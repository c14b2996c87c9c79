-- Words that most lines begin with.
use Rattle.std.proofs.Common.{◌≡◌, List, ℕ, true, refl, sym, ◌∙◌, ap}
use Rattle.std.specs.Prelude.{codes}
use Rattle.std.specs.Str.{bytes_eq}
use Rattle.std.proofs.lemmas.Slice.Eq.{bytes_eq-Decides}
use Rattle.rtl_lex.specs.declared.sort.Sort.{Sort}
use Rattle.rtl_lex.specs.declared.sort.Sort.TheVariants as sorts
use Rattle.rtl_lex.specs.Sorts.{module_word, option_word, process_word, word_sort}

-- the sort of a word that is the same as one whose sort is known
known : (text word : List ℕ) (sort : Sort) → word_sort word ≡ sort → bytes_eq text word ≡ true → sort ≡ word_sort text
known text word sort is e = sym (ap word_sort ((bytes_eq-Decides text word).0 e) ∙ is)

connect_sort : word_sort (codes "connect") ≡ sorts.Connect
unfolding word_sort module_word
connect_sort = refl

pub connect_is : (text : List ℕ) → bytes_eq text (codes "connect") ≡ true → sorts.Connect ≡ word_sort text
connect_is text e = known text (codes "connect") sorts.Connect connect_sort e

parameter_sort : word_sort (codes "parameter") ≡ sorts.Parameter
unfolding word_sort module_word
parameter_sort = refl

pub parameter_is : (text : List ℕ) → bytes_eq text (codes "parameter") ≡ true → sorts.Parameter ≡ word_sort text
parameter_is text e = known text (codes "parameter") sorts.Parameter parameter_sort e

end_sort : word_sort (codes "end") ≡ sorts.End
unfolding word_sort module_word
end_sort = refl

pub end_is : (text : List ℕ) → bytes_eq text (codes "end") ≡ true → sorts.End ≡ word_sort text
end_is text e = known text (codes "end") sorts.End end_sort e

cell_sort : word_sort (codes "cell") ≡ sorts.Cell
unfolding word_sort module_word
cell_sort = refl

pub cell_is : (text : List ℕ) → bytes_eq text (codes "cell") ≡ true → sorts.Cell ≡ word_sort text
cell_is text e = known text (codes "cell") sorts.Cell cell_sort e

wire_sort : word_sort (codes "wire") ≡ sorts.Wire
unfolding word_sort module_word
wire_sort = refl

pub wire_is : (text : List ℕ) → bytes_eq text (codes "wire") ≡ true → sorts.Wire ≡ word_sort text
wire_is text e = known text (codes "wire") sorts.Wire wire_sort e

width_sort : word_sort (codes "width") ≡ sorts.Width
unfolding word_sort module_word option_word
width_sort = refl

pub width_is : (text : List ℕ) → bytes_eq text (codes "width") ≡ true → sorts.Width ≡ word_sort text
width_is text e = known text (codes "width") sorts.Width width_sort e

assign_sort : word_sort (codes "assign") ≡ sorts.Assign
unfolding word_sort module_word option_word process_word
assign_sort = refl

pub assign_is : (text : List ℕ) → bytes_eq text (codes "assign") ≡ true → sorts.Assign ≡ word_sort text
assign_is text e = known text (codes "assign") sorts.Assign assign_sort e

pub ruleset common_words = (connect_is, parameter_is, end_is, cell_is, wire_is, width_is, assign_is)
