-- Twitter's Snowflake layout.
use Rattle.std.specs.Prelude.{◌+◌, ◌*◌, ◌/◌, ◌%◌, ◌^◌, Ok, Result, nat_lt}
use Rattle.record.specs.declared.numbers.Identifier.{Identifier as Id}
use Rattle.kind.specs.declared.fault.SettingFault.{SettingFault}
use Rattle.kind.specs.declared.fault.SettingFault.TheVariants.{Milliseconds, Worker, Step, Identifier}
use Rattle.kind.specs.declared.snowflake.Parts.{Parts}
use Rattle.kind.specs.Fault.{provided}

-- the fields from the high end: 41 bits of milliseconds, 10 of a worker, 12 of a step
abbrev pub packed : Parts → Id
packed p = record { 0 = p.milliseconds * 2 ^ 22 + p.worker * 2 ^ 12 + p.step }

-- packing denies the first field that does not fit its bits
abbrev pub packing : Parts → Result Id SettingFault
packing p =
    provided (nat_lt p.milliseconds (2 ^ 41)) Milliseconds
    (provided (nat_lt p.worker (2 ^ 10)) Worker
    (provided (nat_lt p.step (2 ^ 12)) Step
    (Ok (packed p))))

-- what stands in the bits of each field
abbrev pub fields : Id → Parts
fields i =
    record {
      milliseconds = i.0 / 2 ^ 22;
      worker = i.0 / 2 ^ 12 % 2 ^ 10;
      step = i.0 % 2 ^ 12;
    }

-- taking apart denies what does not fit the 63 bits of the fields
abbrev pub taking_apart : Id → Result Parts SettingFault
taking_apart i = provided (nat_lt i.0 (2 ^ 63)) Identifier (Ok (fields i))
