-- The kinds as the promise has them.
use Rattle.kind.specs.Meaning.{LawfulKind}
use Rattle.kind.specs.Serial.{serial_numbering}
use Rattle.kind.specs.Time.{time_numbering}
use Rattle.kind.specs.declared.serial.SerialKind.{SerialKind}
use Rattle.kind.specs.declared.time.TimeKind.{TimeKind}
use Rattle.history.specs.Promise.{FloorsZero}

-- every kind is lawful, and every reading has the floor 0 in a serial kind
pub record KindsLawful : Type 0 where
  pub serial : (kind : SerialKind) → LawfulKind (serial_numbering kind)
  pub serial_floors : (kind : SerialKind) → FloorsZero (serial_numbering kind)
  pub time : (kind : TimeKind) → LawfulKind (time_numbering kind)
