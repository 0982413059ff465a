use Rattle.std.proofs.Common.{None}
use Rattle.job.specs.Records.{entries}
use Rattle.job.proofs.Listings.{reads, nothing_lost, fault_last}
use Rattle.job.proofs.Told.{told_once, lines_once, some_list, one_each, in_order, comes_apart, refused_silent, refused_apart, prefix, begins}
use Rattle.job.proofs.laws.Goals as goal

pub returns : goal.returns
returns c = record {
  reads = reads;
  nothing_lost = nothing_lost;
  fault_last = fault_last;
  one_listing = λ job. told_once None (entries job);
  one_list = lines_once;
  some_list = some_list;
  one_each = one_each;
  in_order = in_order;
  comes_apart = comes_apart;
  refused_silent = refused_silent;
  refused_apart = refused_apart;
  prefix = prefix;
  begins = begins;
}
