-- The registry, and so many empty records.
use Rattle.std.proofs.Common.{◌≡◌, ◌≤◌, ◌+◌, ◌++◌, vec_len, vec_capacity}
use Rattle.std.specs.Prelude.{replicate}
use Rattle.record_rule.specs.declared.values.DeskValue.TheVariants.{Record}
use Rattle.cordz_desk.specs.Fresh.{empty_record}
use Rattle.cordz_desk.proofs.start.first_values.Given as goal

abbrev pub invariant-loop : goal.invariant-loop
invariant-loop g l = record {
  items : l.values.items ≡ l.initial.values.items ++ replicate l.counter (Record empty_record);
  len : vec_len l.values ≡ l.counter + 1;
  room : 257 ≤ vec_capacity l.values;
}
