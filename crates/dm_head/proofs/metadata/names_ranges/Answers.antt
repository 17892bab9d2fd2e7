use Rattle.std.proofs.Common.{subst, map, take, All, arith, sym, ◌∙◌, refl}
use Rattle.std.proofs.lemmas.Bool.{false≢true}
use Rattle.std.proofs.lemmas.List.{take_all}
use Rattle.httparse.specs.Spans.{header_bytes}
use Rattle.dm_edge.specs.Fields.{NameAndValue}
use Rattle.dm_edge.specs.Metadata.{NamesRanges}
use Rattle.dm_head.proofs.FieldLemmas.{none_names_more, names_at, none_names}
use Rattle.dm_head.proofs.metadata.names_ranges.Goals as goal

pub loop-field-preserved : goal.loop-field-preserved
loop-field-preserved c =
    none_names_more c.args.head.now c.args.fields.now c.loop-field.field-index _ c.loop-field-test.true c.loop-field.invariant
    (λ named. false≢true (sym c.if-names_bytes.false ∙ c.names_bytes.ensures.1 named))

pub returns-then-names_bytes : goal.returns-then-names_bytes
returns-then-names_bytes c = (
  λ _. names_at c.args.head.now c.args.fields.now c.loop-field.field-index _ c.loop-field-test.true
      (c.names_bytes.ensures.0 c.if-names_bytes.true),
  λ _. refl,
)

pub returns : goal.returns
returns c =
    let none = subst (λ (t : _). All (λ (field : NameAndValue). NamesRanges field → ⊥) (map (header_bytes c.args.head.now) t))
    (take_all c.loop-field.field-index c.args.fields.now (omega (arith, c.loop-field-test.false))) c.loop-field.invariant in
    (λ e. absurd (false≢true e), λ any. absurd (none_names _ none any))
