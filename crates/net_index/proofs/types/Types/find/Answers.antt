use Rattle.std.proofs.Common.{sym, ◌∙◌, subst}
use Rattle.net_index.specs.Types.{Stands}
use Rattle.net_index.proofs.Found.{library_found, instance_found, unsupported_found, unknown_found}
use Rattle.net_index.proofs.types.Types.find.Goals as goal

pub returns-in-Some : goal.returns-in-Some
returns-in-Some c = record { value = λ ports are. library_found ports c.args.name.now c.in-Some.kind (sym c.in-Some.ensures.value) }

pub returns-in-Some-get : goal.returns-in-Some-get
returns-in-Some-get c = record {
  value = λ ports are. instance_found ports c.args.name.now (sym c.in_default.ensures.value) c.in-Some-get.ports (subst (λ t. Stands t (ports c.args.name.now)) (sym c.in-Some-get.ensures.value) (are c.args.name.now));
}

pub returns-then-is_unsupported : goal.returns-then-is_unsupported
returns-then-is_unsupported c = record {
  value = λ ports are. unsupported_found ports c.args.name.now (sym c.in_default.ensures.value) (subst (λ t. Stands t (ports c.args.name.now)) (sym c.in_default-get.ensures.value) (are c.args.name.now)) (sym c.is_unsupported.ensures.value ∙ c.if-is_unsupported.true);
}

pub returns-else-is_unsupported : goal.returns-else-is_unsupported
returns-else-is_unsupported c = record {
  value = λ ports are. unknown_found ports c.args.name.now (sym c.in_default.ensures.value) (subst (λ t. Stands t (ports c.args.name.now)) (sym c.in_default-get.ensures.value) (are c.args.name.now)) (sym c.is_unsupported.ensures.value ∙ c.if-is_unsupported.false);
}
