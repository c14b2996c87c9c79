use Rattle.std.proofs.Common.{[], ◌≡◌, ◌<◌, ◌∙◌, ⊎_elim, ap, arith, get_or, inl, inr, length, set, subst, sym}
use Rattle.opt_merge.specs.Classes.{class_of}
use Rattle.opt_merge.specs.Late.{lists_of}
use Rattle.opt_merge.proofs.Waiting.{changed_here, list_at, split}
use Rattle.opt_merge.proofs.late.Late.take.Goals as goal

pub returns : goal.returns
returns c =
    let s = c.args.self.now.sized in
    let items = c.args.self.now.places.items in
    let class = c.class_of-class.result in
    let inside : class < length items = omega (arith, s, c.class_of-class.ensures.small) in
    record {
      value =
          ap (λ s. s.keys) (c.replace.ensures.value ∙ c.index_mut.ensures.value)
          ∙ sym (list_at items class _ inside) ∙ ap (λ k. get_or (lists_of items) k []) c.class_of-class.ensures.value;
      none =
          subst (λ k. get_or (lists_of (set items class c.replace.new.dest)) k [] ≡ []) c.class_of-class.ensures.value
          (changed_here items class c.replace.new.dest inside ∙ ap (λ s. s.keys) c.replace.ensures.after ∙ c.new.ensures.empty);
      others = λ other at i. ⊎_elim inl (λ w. inr w.1) (split items class _ _ c.replace.new.dest (c.replace.ensures.value ∙ c.index_mut.ensures.value) inside (class_of other) at i);
    }
