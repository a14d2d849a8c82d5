mod LoadLemmas
mod MeterLemmas
