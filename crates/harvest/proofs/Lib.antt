mod Prefix
