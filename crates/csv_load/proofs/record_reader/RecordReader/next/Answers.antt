use Rattle.std.proofs.Common.{refl}
use Rattle.csv.specs.Records.{fields_of}
use Rattle.csv_load.proofs.Steps.{TakesRecord, ready, takes_none, takes_record}
use Rattle.csv_load.proofs.record_reader.RecordReader.next.Goals as goal
use Rattle.csv_load.proofs.record_reader.RecordReader.next.Goals.{In-Ok-true}

taken : (c : In-Ok-true) → TakesRecord c.self.inside.reader c.read_byte_record.new.self (fields_of c.read_byte_record.new.row)
taken c =
    let plain = c.self.invariant c.in-Reading.is in
    let read = rw c.in-Ok-true.field-0-test at (c.in-Ok-true.ensures.reads plain.trim (ready c.self.inside.reader plain)) in
    takes_record c.self.inside.reader c.read_byte_record.new.self (fields_of c.read_byte_record.new.row) plain read (c.in-Ok-true.ensures.ready plain.trim) c.in-Ok-true.ensures.flexible

pub invariant_of-self : goal.invariant_of-self
invariant_of-self c = λ _. (taken c).next

pub returns-in-Ok-true-clause-found : goal.returns-in-Ok-true-clause-found
returns-in-Ok-true-clause-found c = rw (← c.self.view_is, c.in-Reading.is) (taken c).left

pub returns-in-Ok-true-clause-some : goal.returns-in-Ok-true-clause-some
returns-in-Ok-true-clause-some c = (taken c).some

pub returns-in-Ok-false-clause-end : goal.returns-in-Ok-false-clause-end
returns-in-Ok-false-clause-end c =
    let plain = c.self.invariant c.in-Reading.is in
    let read = rw c.in-Ok-false.field-0-test at (c.in-Ok-false.ensures.reads plain.trim (ready c.self.inside.reader plain)) in
    (rw (← c.self.view_is, c.in-Reading.is) (takes_none c.self.inside.reader c.read_byte_record.new.self (fields_of c.read_byte_record.new.row) plain read), refl)
