use Rattle.std.proofs.Common.{◌≡◌, ◌≤◌, ◌+◌, ◌*◌, ◌^◌, length, drop}
use Rattle.std.specs.Str.{all_ascii_digits}
use Rattle.std.specs.Str.Parse.{digits_value_after}
use Rattle.mz_num.proofs.digits.more_digits.Given as goal

abbrev pub invariant-loop-byte : goal.invariant-loop-byte
invariant-loop-byte l = record {
  digits : all_ascii_digits (drop l.byte-index l.text) ≡ all_ascii_digits l.text;
  value : digits_value_after 10 l.number (drop l.byte-index l.text) ≡ digits_value_after 10 l.before l.text;
  room : (l.number + 1) * 10 ^ length (drop l.byte-index l.text) ≤ (l.before + 1) * 10 ^ length l.text;
}
