mod Exact
mod Ratio
