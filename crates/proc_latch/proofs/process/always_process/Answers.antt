use Rattle.std.proofs.Common.{◌≡◌, rules, ◌∙◌, ap, subst, length, None, arith}
use Rattle.std.specs.Prelude.{replicate}
use Rattle.rtl_ir.specs.Assigns.{tree_bits}
use Rattle.rtl_ir.specs.Follow.{all_joins}
use Rattle.net_index.specs.Builder.{PassesLimit}
use Rattle.match_cells.specs.Trees.{Numbered, none_made, seen}
use Rattle.proc_latch.specs.Steps.{always_steps}
use Rattle.proc_latch.proofs.Exact.{numbers_are}
use Rattle.proc_latch.proofs.process.always_process.Goals as goal

pub returns-in_err-always_lines-clause-over : goal.returns-in_err-always_lines-clause-over
returns-in_err-always_lines-clause-over c e =
    let root = c.args.root.now in
    let len : c.len.result ≡ length c.in_ok-tables.tables.nodes.items = omega (arith, c.len.ensures, c.in_ok-tables.tables.nodes.ok) in
    let begun : seen c.in_ok-of.field-0 ≡ none_made c.args.builder root = λ i. record { building = c.in_ok-of.ensures.building i; made = (c.in_ok-of.ensures.made ∙ ap (λ n. replicate n None) (len ∙ c.in_ok-tables.ensures.tables.count)) i } in
    subst PassesLimit (ap (λ t. (always_steps root (tree_bits root) (all_joins c.args.updates.now) t).building) begun ∙ numbers_are root c.args.updates.now c.args.builder)
    (c.always_lines.ensures.over (search (rules, e, c.from_residual-in_err-always_lines.ensures, c.in_err-always_lines.is)))

pub returns-clause-exact : goal.returns-clause-exact
returns-clause-exact c =
    let root = c.args.root.now in
    let len : c.len.result ≡ length c.in_ok-tables.tables.nodes.items = omega (arith, c.len.ensures, c.in_ok-tables.tables.nodes.ok) in
    let begun : seen c.in_ok-of.field-0 ≡ none_made c.args.builder root = λ i. record { building = c.in_ok-of.ensures.building i; made = (c.in_ok-of.ensures.made ∙ ap (λ n. replicate n None) (len ∙ c.in_ok-tables.ensures.tables.count)) i } in
    ap (λ (t : Numbered). t.building) (c.in_ok-always_lines.ensures.exact ∙ ap (always_steps root (tree_bits root) (all_joins c.args.updates.now)) begun)
    ∙ numbers_are root c.args.updates.now c.args.builder
