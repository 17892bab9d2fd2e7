use Rattle.std.proofs.Common.{◌≡◌, ℕ, List, ◌++◌, append_assoc}
use Rattle.std.proofs.lemmas.Result.{on_ok_weaker}
use Rattle.dm_types.specs.declared.item.Item.{Item}
use Rattle.dm_record.specs.Spelling.{order_fields, phase_fields, course_fields, told_fields, kept_fields}
use Rattle.dm_record.specs.Limits.{IsItem}
use Rattle.dm_record.specs.Writing.{IsOrder, IsCourse, IsTold, IsKept}
use Rattle.dm_record.proofs.writer.put_item.Goals as goal

-- five fields, one after another
chained : (l m n o p q a b c d e : List ℕ) → m ≡ l ++ a → n ≡ m ++ b → o ≡ n ++ c → p ≡ o ++ d → q ≡ p ++ e → q ≡ l ++ (a ++ (b ++ (c ++ (d ++ e))))
chained l m n o p q a b c d e h1 h2 h3 h4 h5 = rw (h5, h4, h3, h2, h1) (simp append_assoc)

whole : (i : Item) → IsOrder i → IsCourse i → IsTold i → IsKept i → IsItem i
whole i order course told kept = record {
  id = order.0;
  word = order.1;
  first_address = order.2;
  wish = order.3;
  digest = order.4;
  epoch = course.0;
  attempt = course.1;
  autos = course.2;
  key = told.0;
  last_address = told.1;
  total = told.2;
  name = told.3;
  modified = told.4;
  slices = kept.0;
  have = kept.1;
  at_ms = kept.2;
}

pub returns : goal.returns
returns c =
    let i = c.args.item.now in
    let order = c.in_ok-put_order.ensures in
    let phase = c.in_ok-put_phase.ensures in
    let course = c.in_ok-put_course.ensures in
    let told = c.in_ok-put_told.ensures in
    on_ok_weaker c.put_kept.result
    (λ kept. (
      chained c.args.out.now c.put_order.new.out c.put_phase.new.out c.put_course.new.out c.put_told.new.out c.put_kept.new.out (order_fields i) (phase_fields i) (course_fields i) (told_fields i) (kept_fields i) order.0 phase.0 course.0 told.0 kept.0,
      whole i order.1 course.1 told.1 kept.1,
    ))
    c.put_kept.ensures
