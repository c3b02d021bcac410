use Rattle.wh_gen.proofs.make.make_case.Goals as goal

pub returns : goal.returns
returns c = λ i. record {
  spec = c.in_ok-from_slice.ensures i;
  dumps = c.in_ok-dumps.ensures i;
  changes = c.in_ok-change_texts.ensures i;
}
